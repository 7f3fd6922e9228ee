-- Demand 3 for Cinema 4D files, in Q-12's words: which chunks may be put in or taken out, and what stays the same.
use Rattle.std.specs.Prelude.{◌≡◌, Bool, true, false, List, [], ◌∷◌}
use Rattle.shared_flat.specs.Put.{Mark, put, keep, without, with, puts, pieces, Moved, Pairwise}
use Rattle.shared_words.specs.Lists.{All}
use Rattle.c4d_rules.specs.Blocks.{chunk_header, Framed}
use Rattle.c4d_rules.specs.Kinds.{Kind, Platform, Materials, Objects, Other}
use Rattle.c4d_rules.specs.Layout.{Inside, plain, subs, Chunk, kind, block, chunk_size}
use Rattle.c4d_rules.specs.Gives.{Object, objects}

-- ---- put in

abbrev pub is_plain : Inside → Bool
is_plain (plain rest) = true
is_plain (subs bs) = false

-- a chunk of an unlisted type: its header, which tells its size, and any bytes
pub record Unlisted (c : Chunk) : Type 0 where
  pub framed : Framed chunk_header (block c)
  pub other : kind c ≡ Other
  pub not_opened : is_plain c.inside ≡ true

abbrev pub is_platform : Kind → Bool
is_platform Platform = true
is_platform Materials = false
is_platform Objects = false
is_platform Other = false

abbrev pub NotPlatform : Chunk → Type 0
NotPlatform c = is_platform (kind c) ≡ false

-- "anywhere but before PLTF": no chunk that stays behind the first one put in is PLTF
abbrev pub BehindPlatform : List (Mark Chunk) → Type 0
BehindPlatform [] = Unit
BehindPlatform (put c ∷ m) = All NotPlatform (without m)
BehindPlatform (keep c ∷ m) = BehindPlatform m

pub record MayPut (m : List (Mark Chunk)) : Type 0 where
  pub each : All Unlisted (puts m)
  pub spots : BehindPlatform m

-- ---- taken out

-- any unlisted ones
abbrev pub MayTake : List (Mark Chunk) → Type 0
MayTake m = All (λ c. kind c ≡ Other) (puts m)

-- ---- what stays the same

pub record SameObject (old new : Object) : Type 0 where
  pub combination-same : new.combination ≡ old.combination
  pub materials_same : new.materials ≡ old.materials

-- the same objects in the same order, each moved by the bytes put in before it
abbrev pub Unchanged : List (Mark Chunk) → Type 0
Unchanged m = Pairwise (Moved (λ r. r.offset) SameObject (pieces chunk_size 12 m)) (objects (without m)) (objects (with m))
