-- Lists that are related element by element.
use mathlib.Core.Path.{◌≡◌, refl, ap}
use mathlib.Core.List.{List, [], ◌∷◌}
use mathlib.Core.Option.{Option, none, some}
use Prim.Native.Nat.{ℕ, zero, suc}
use lib.ListN.{length, get_elem?}
use Rattle.shared_words.specs.Lists.{Pairwise}

module _ {A : Type 0} (R : A → A → Type 0) where
  -- two elements, or none in both
  abbrev pub Both : Option A → Option A → Type 0
  Both none none = Unit
  Both none (some y) = ⊥
  Both (some x) none = ⊥
  Both (some x) (some y) = R x y

  pub both_at : (xs ys : List A) → Pairwise R xs ys → (i : ℕ) → Both (get_elem? xs i) (get_elem? ys i)
  both_at [] [] p i = tt
  both_at [] (y ∷ ys) p i = absurd p
  both_at (x ∷ xs) [] p i = absurd p
  both_at (x ∷ xs) (y ∷ ys) p zero = p.0
  both_at (x ∷ xs) (y ∷ ys) p (suc i) = both_at xs ys p.1 i

  pub equally_long : (xs ys : List A) → Pairwise R xs ys → length ys ≡ length xs
  equally_long [] [] p = refl
  equally_long [] (y ∷ ys) p = absurd p
  equally_long (x ∷ xs) [] p = absurd p
  equally_long (x ∷ xs) (y ∷ ys) p = ap suc (equally_long xs ys p.1)
