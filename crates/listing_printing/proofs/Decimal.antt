-- A number in decimal, digit by digit, and how long it is.
use mathlib.Core.Path.{◌≡◌, refl, ap}
use mathlib.Core.Bool.{Bool, true, false, cond}
use mathlib.Core.List.{List, [], ◌∷◌, ◌++◌}
use Prim.Native.Nat.{ℕ, zero, suc, ◌+◌, ◌/◌, ◌%◌, ◌^◌, ◌<◌, ◌≤◌}
use native.Mathlib.Nat.{div-lt_iff_lt-mul}
use native.Mathlib.Omega.{arith}
use lib.Dec.{ltb}
use lib.ListN.{length, length-append}
use borrow.Author.Tests.{lt-ltb, le-ltb, ltb-false}
use Rattle.listing_printing.specs.Text.{glyph, numeral, decimal}

-- more divisions than n make no difference
enough : (j k n : ℕ) → n ≤ j → n ≤ k → numeral j n ≡ numeral k n
unfolding numeral
enough zero zero n h i = refl
enough zero (suc k) n h i = rw (lt-ltb n 10 (omega arith))
enough (suc j) zero n h i = rw (lt-ltb n 10 (omega arith))
enough (suc j) (suc k) n h i =
    ap (λ (l : List ℕ). cond (ltb n 10) (glyph n ∷ []) (l ++ (glyph (n % 10) ∷ []))) (enough j k (n / 10) (omega arith) (omega arith))

pub one_digit : (n : ℕ) → n < 10 → decimal n ≡ glyph n ∷ []
unfolding decimal numeral
one_digit zero h = refl
one_digit (suc m) h = rw (lt-ltb (suc m) 10 h)

pub last_digit : (n : ℕ) → 10 ≤ n → decimal n ≡ decimal (n / 10) ++ (glyph (n % 10) ∷ [])
unfolding decimal numeral
last_digit zero h = absurd (omega arith)
last_digit (suc m) h = rw (le-ltb (suc m) 10 h, enough m (suc m / 10) (suc m / 10) (omega arith) (omega arith))

-- one digit fewer is left after a division
fewer : (k n : ℕ) (digits : List ℕ) → n < 10 ^ suc k → 10 ≤ n → ((j : ℕ) → n / 10 < 10 ^ suc j → length digits ≤ suc j) → length digits + 1 ≤ suc k
fewer zero n digits h i ih = absurd (omega arith)
fewer (suc k) n digits h i ih =
    omega (arith, ih k ((div-lt_iff_lt-mul {k = 10} {x = n} {y = 10 ^ suc k} (omega arith)).1 (omega arith)))

short-numeral : (turns k n : ℕ) → n < 10 ^ suc k → length (numeral turns n) ≤ suc k
unfolding numeral
short-numeral zero k n h = omega arith
short-numeral (suc turns) k n h = go (ltb n 10) refl (λ j. short-numeral turns j (n / 10))
  where
    go : (t : Bool) → ltb n 10 ≡ t → ((j : ℕ) → n / 10 < 10 ^ suc j → length (numeral turns (n / 10)) ≤ suc j) →
        length (cond t (glyph n ∷ []) (numeral turns (n / 10) ++ (glyph (n % 10) ∷ []))) ≤ suc k
    go true e ih = omega arith
    go false e ih =
        omega (arith, length-append (numeral turns (n / 10)) (glyph (n % 10) ∷ []), fewer k n (numeral turns (n / 10)) h (ltb-false n 10 e) ih)

-- a number below a power of ten has no more digits
pub short : (k n : ℕ) → n < 10 ^ suc k → length (decimal n) ≤ suc k
unfolding decimal
short k n = short-numeral n k n
