-- Demand 3 for Caligari files, in Q-4's words: which chunks may be put in or taken out, and what stays the same.
use Rattle.std.specs.Prelude.{◌≡◌, ℕ, true, false, List, [], ◌∷◌, length}
use Rattle.shared_words.specs.Lists.{All, Pairwise}
use Rattle.shared_flat.specs.Put.{Mark, without, with, puts, pieces, Moved}
use Rattle.cob_rules.specs.declared.Record.{Record}
use Rattle.cob_rules.specs.Kinds.{listed}
use Rattle.cob_rules.specs.Layout.{Chunk, kind, identifier, parent, size_field, size, Layout}
use Rattle.cob_rules.specs.Rules.{used}
use Rattle.cob_rules.specs.Gives.{list, meshes}

-- chunks and an END
abbrev pub ending : Chunk → List Chunk → Layout
ending last chunks = record { chunks = chunks; last = last }

-- ---- put in

-- "unlisted types of stated size, any unused identifier but 0, ..., and parent 0"
pub record Puttable (c : Chunk) : Type 0 where
  pub header-whole : length c.head ≡ 20
  pub unlisted : listed (kind c) ≡ false
  pub size-stated : size_field c ≡ length c.body
  pub not-zero : identifier c ≡ 0 → ⊥
  pub no-parent : parent c ≡ 0

-- "a different one for each"
abbrev pub Different : List Chunk → Type 0
Different [] = Unit
Different (c ∷ cs) = (used (identifier c) cs ≡ false) × Different cs

pub record MayPut (m : List (Mark Chunk)) : Type 0 where
  pub each : All Puttable (puts m)
  pub unused : (x : ℕ) → used x (puts m) ≡ true → used x (without m) ≡ false
  pub different : Different (puts m)

-- ---- taken out

-- Unlisted ones, "those that nobody names as parent". (Nobody that stays: chunks taken out together may name each other.)
pub record MayTake (m : List (Mark Chunk)) : Type 0 where
  pub unlisted : All (λ c. listed (kind c) ≡ false) (puts m)
  pub unnamed : All (λ c. used (parent c) (puts m) ≡ false) (without m)

-- ---- what stays the same

pub record SameRecord (old new : Record) : Type 0 where
  pub kind-same : new.kind ≡ old.kind
  pub length-same : new.len ≡ old.len
  pub identifier-same : new.identifier ≡ old.identifier
  pub parent-same : new.parent ≡ old.parent
  pub owner_same : new.owner ≡ old.owner

-- the list has the same chunks of the four in the same order, each moved by the bytes put in before it; the meshes are the same
pub record Unchanged (m : List (Mark Chunk)) (last : Chunk) : Type 0 where
  pub list-moved : Pairwise (Moved (λ r. r.offset) SameRecord (pieces size 32 m)) (list (ending last (without m))) (list (ending last (with m)))
  pub meshes-same : meshes (ending last (with m)) ≡ meshes (ending last (without m))
