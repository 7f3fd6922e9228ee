-- The sums are remainders, so that the number does not wrap.
use mathlib.Core.Path.{refl, ap}
use Prim.Native.Nat.{ℕ}
use native.Mathlib.Omega.{arith}
use Rattle.slip_sums.specs.declared.Sum.{Sum}
use Rattle.stick_judge.proofs.slip_entry.Goals as goal

abbrev long : Sum → ℕ
long s = s.len

abbrev first : Sum → ℕ
first s = s.first

abbrev second : Sum → ℕ
second s = s.second

pub overflow_mul-result : goal.overflow_mul-result
overflow_mul-result c = omega (arith, ap second c.sums-s.ensures)

pub overflow_add-result : goal.overflow_add-result
overflow_add-result c = omega (arith, ap first c.sums-s.ensures, ap second c.sums-s.ensures)

pub returns : goal.returns
returns c = let e = c.sums-s.ensures in record { numbered = refl; file-is = ap long e; sums_is = omega (arith, ap first e, ap second e) }
