-- What is proved of the walk's verdict and of what the rules give.
use Rattle.std.specs.Prelude.{◌≡◌, ◌↔◌, ℕ, ◌^◌, ◌≤◌, ◌<◌, Bool, List, length, take, drop}
use Rattle.std.proofs.Math.Option.{Option, none}
use Rattle.shared_words.specs.Refusals.{limit}
use Rattle.shared_flat.specs.Put.{Mark, without, with}
use Rattle.shared_words.specs.Bytes.{value_be, Bytes}
use Rattle.shared_words.specs.Lists.{All, how_many}
use Rattle.c4d_rules.specs.Blocks.{Block}
use Rattle.c4d_rules.specs.Combinations.{Combination, combinations, holds}
use Rattle.c4d_rules.specs.Layout.{Chunk, Layout, form, mc4d, file_header, bytes}
use Rattle.c4d_rules.specs.Rules.{MaterialsObey, ObjectsObey, Meets}
use Rattle.shared_words.specs.Conditions.{accepted}
use Rattle.c4d_rules.specs.Walk.{verdict}
use Rattle.c4d_rules.specs.Gives.{objects_from}
use Rattle.c4d_rules.specs.PutIn.{MayPut, MayTake, Unchanged}
use Rattle.c4d_rules.specs.Grouped.{EndsOnce, Item, all_blocks, ItemRules, Grouped, item_objects}

-- A file is accepted, with a layout, exactly when it meets the rules with that layout. (For every list of numbers, so for every
-- list of bytes.)
abbrev pub AcceptedExactly : Type 0
AcceptedExactly = (s : List ℕ) (l : Layout) → (verdict s ≡ accepted l) ↔ Meets s l

-- A file has one layout.
abbrev pub OneLayout : Type 0
OneLayout = (s : List ℕ) (l l' : Layout) → Meets s l → Meets s l' → l ≡ l'

-- The header, for a file of bytes: what stands in its first 12 bytes, the size read as a number.
pub record HeaderTells (s : List ℕ) (n : ℕ) : Type 0 where
  pub form-first : take 4 s ≡ form
  pub size-next : value_be (take 4 (drop 4 s)) ≡ n
  pub mc4d-next : take 4 (drop 8 s) ≡ mc4d

abbrev pub HeaderRead : Type 0
HeaderRead = (s : List ℕ) → Bytes s → (n : ℕ) → n < 2 ^ 32 → (take 12 s ≡ file_header n) ↔ HeaderTells s n

-- At most one combination holds of an object, so that the order of the nine does not matter.
abbrev pub AtMostOne : Type 0
AtMostOne = (there : ℕ → Bool) → how_many (λ (c : Combination). holds c there) combinations ≤ 1

-- ---- the rules of sub-chunks, one after another, say what Q-12 says of them together

-- the last sub-chunk of a MAT4 is MAT_END, and no other
abbrev pub EndsExactly : Type 0
EndsExactly = (bs : List Block) → MaterialsObey bs ↔ EndsOnce bs

-- an OBJ5 is objects, and unknown sub-chunks between them
abbrev pub GroupedExactly : Type 0
GroupedExactly = (last : Option ℕ) (bs : List Block) → ObjectsObey last bs ↔ Grouped last bs

-- and the objects that it gives are these
abbrev pub ObjectsGrouped : Type 0
ObjectsGrouped = (last : Option ℕ) (items : List Item) → All (ItemRules last) items → (o : ℕ) → objects_from o none o (all_blocks items) ≡ item_objects o items

-- ---- demand 3: for all marked chunks together and both ways. (Crate claim_demands says it of the calls.)

-- an accepted file, with chunks put in, is accepted within the length limit. (`bytes` raises the size in the file's header.)
abbrev pub PutIn : Type 0
PutIn = (m : List (Mark Chunk)) (s : List ℕ) → verdict s ≡ accepted (without m) → MayPut m → length (bytes (with m)) ≤ limit →
    (verdict (bytes (with m)) ≡ accepted (with m)) × Unchanged m

-- an accepted file, with chunks taken out, is accepted
abbrev pub TakenOut : Type 0
TakenOut = (m : List (Mark Chunk)) (s : List ℕ) → verdict s ≡ accepted (with m) → MayTake m →
    (verdict (bytes (without m)) ≡ accepted (without m)) × Unchanged m
