-- What holds of each of a list holds of the one that is picked.
use Prim.Native.Nat.{ℕ, zero, suc}
use mathlib.Core.List.{List, [], ◌∷◌}
use mathlib.Core.Option.{Option, none, some}
use lib.ListN.{get_elem?}
use Rattle.shared_words.specs.Lists.{All}

abbrev pub Holds : {A : Type 0} → (A → Type 0) → Option A → Type 0
Holds P none = Unit
Holds P (some a) = P a

pub picked : {A : Type 0} (P : A → Type 0) (xs : List A) (k : ℕ) → All P xs → Holds P (get_elem? xs k)
picked P [] k h = tt
picked P (x ∷ xs) zero h = h.0
picked P (x ∷ xs) (suc k) h = picked P xs k h.1
