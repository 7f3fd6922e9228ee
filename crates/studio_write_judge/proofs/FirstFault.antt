-- The first fault of a row, as `position` finds it.
use Rattle.std.proofs.Common.{◌≡◌, ℕ, suc, ◌+◌, ◌≤◌, Bool, true, false, List, ◌∷◌, length, refl, arith}
use mathlib.Core.Bool.{not, cond}
use Rattle.std.specs.Prelude.{Some, None, position}
use Rattle.std.specs.Option.{unwrap_or}
use Rattle.std.specs.List.{position_or_len}
use Rattle.std.proofs.lemmas.List.Recursion.{is_position_or_len}
use Rattle.std.proofs.lemmas.List.Sums.{prefix_len-le-length}
use Rattle.std.proofs.lemmas.Bool.{ltb-false, le-ltb, lt-ltb, leb-true, leb-false}
use lib.Dec.{ltb, leb}
use lib.Ieee.{Float, nan, inf, fin}
use Rattle.std.specs.Float.{float_is_finite}
use Rattle.studio_write_judge.specs.Judged.{finite_float}
use Rattle.shared_words.specs.Lists.{first_fault}

module _ {A : Type 0} (good bad : A → Bool) (opposite : (x : A) → good x ≡ not (bad x)) where
  first_is : (xs : List A) → first_fault good xs ≡ position_or_len bad xs
  first_is xs = is_position_or_len (first_fault good) bad refl step xs
    where
      step : (x : A) (xs : List A) → first_fault good (x ∷ xs) ≡ cond (bad x) 0 (1 + first_fault good xs)
      step x xs = rw (opposite x) (go (bad x))
        where
          go : (b : Bool) → cond (not b) (suc (first_fault good xs)) 0 ≡ cond b 0 (1 + first_fault good xs)
          go true = refl
          go false = omega arith

  pub first_by_position : (xs : List A) → unwrap_or (position bad xs) (length xs) ≡ first_fault good xs
  first_by_position xs = rw (first_is xs) (at (position_or_len bad xs) (length xs) (prefix_len-le-length _ xs) (ltb (position_or_len bad xs) (length xs)) refl)
    where
      at : (p n : ℕ) → p ≤ n → (b : Bool) → ltb p n ≡ b → unwrap_or (cond b (Some p) None) n ≡ p
      at p n h true e = refl
      at p n h false e = let k : n ≤ p = ltb-false p n e in omega arith

-- below n, or n and more
pub below_or : (n x : ℕ) → ltb x n ≡ not (leb n x)
below_or n x = go (leb n x) refl
  where
    go : (b : Bool) → leb n x ≡ b → ltb x n ≡ not b
    go true e = le-ltb x n (leb-true n x e)
    go false e = lt-ltb x n (leb-false n x e)

-- what the method of a float says is `finite_float`
pub is_finite_float : (x : Float) → float_is_finite x ≡ finite_float x
unfolding float_is_finite
is_finite_float nan = refl
is_finite_float (inf s) = refl
is_finite_float (fin s m e) = refl

pub finite_or : (x : Float) → finite_float x ≡ not (not (float_is_finite x))
unfolding float_is_finite
finite_or nan = refl
finite_or (inf s) = refl
finite_or (fin s m e) = refl
