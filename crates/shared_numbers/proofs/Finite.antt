-- A finite pattern is no NaN's.
use mathlib.Core.Path.{◌≡◌}
use mathlib.Core.Bool.{true, false, not}
use Prim.Native.Nat.{ℕ, ◌/◌, ◌%◌}
use native.Mathlib.Omega.{arith}
use lib.Dec.{T, eqb}
use lib.Ieee.{binary32, nan_bits}
use borrow.Author.Tests.{eqb-false, ne_eqb, not-true}
use Rattle.shared_words.specs.Floats.{exponent, finite}

-- the exponent as the logic reads it
pub field : (b : ℕ) → finite b ≡ true → eqb (b % 2147483648 / 8388608) 255 ≡ false
unfolding finite
field b h = ne_eqb _ _ (λ (p : b % 2147483648 / 8388608 ≡ 255). eqb-false (exponent b) 255 (not-true (eqb (exponent b) 255) h) (omega arith))

pub not-nan : (b : ℕ) → finite b ≡ true → T (not (nan_bits binary32 b))
unfolding nan_bits
not-nan b h = rw (field b h) tt
