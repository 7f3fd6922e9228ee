-- The sum of the running sums, with each byte counted as often as a running sum holds it: once for itself and for each
-- byte behind it. In this form the sums of joined lists are plain arithmetic.
use mathlib.Core.Path.{◌≡◌}
use mathlib.Core.List.{List, [], ◌∷◌, ◌++◌}
use Prim.Native.Nat.{ℕ, suc, ◌+◌, ◌*◌}
use native.Mathlib.Omega.{arith}
use lib.ListN.{length, length-append}
use Rattle.slip_sums.specs.Fletcher.{total, running}

abbrev pub weighted : List ℕ → ℕ
weighted [] = 0
weighted (b ∷ s) = suc (length s) * b + weighted s

running-from : (a : ℕ) (s : List ℕ) → total (running a s) ≡ length s * a + weighted s
running-from a [] = omega arith
running-from a (b ∷ s) = omega (arith, running-from (a + b) s)

pub running-is : (s : List ℕ) → total (running 0 s) ≡ weighted s
running-is s = omega (arith, running-from 0 s)

pub total_append : (xs ys : List ℕ) → total (xs ++ ys) ≡ total xs + total ys
total_append [] ys = omega arith
total_append (x ∷ xs) ys = omega (arith, total_append xs ys)

pub weighted_append : (xs ys : List ℕ) → weighted (xs ++ ys) ≡ weighted xs + weighted ys + length ys * total xs
weighted_append [] ys = omega arith
weighted_append (x ∷ xs) ys = rw (length-append xs ys) (omega (arith, weighted_append xs ys))
