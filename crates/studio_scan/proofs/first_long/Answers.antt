-- Each byte is below 256, so the two words stand apart in the sum.
use mathlib.Core.Path.{refl}
use native.Mathlib.Omega.{arith}
use borrow.Author.Rules.{rules}
use Rattle.studio_scan.proofs.Halves.{halves}
use Rattle.studio_scan.proofs.first_long.Goals as goal

pub overflow_cast-result : goal.overflow_cast-result
overflow_cast-result c = omega (arith, c.type_inv.s 0)

pub overflow_cast-result-2 : goal.overflow_cast-result-2
overflow_cast-result-2 c = omega (arith, c.type_inv.s 1)

pub overflow_mul-result : goal.overflow_mul-result
overflow_mul-result c = omega (arith, c.type_inv.s 1)

pub overflow_add-result : goal.overflow_add-result
overflow_add-result c = let known = c.type_inv.s in omega (arith, known 0, known 1)

pub overflow_cast-result-3 : goal.overflow_cast-result-3
overflow_cast-result-3 c = omega (arith, c.type_inv.s 2)

pub overflow_mul-result-2 : goal.overflow_mul-result-2
overflow_mul-result-2 c = omega (arith, c.type_inv.s 2)

pub overflow_add-result-2 : goal.overflow_add-result-2
overflow_add-result-2 c = let known = c.type_inv.s in omega (arith, known 0, known 1, known 2)

pub overflow_cast-result-4 : goal.overflow_cast-result-4
overflow_cast-result-4 c = omega (arith, c.type_inv.s 3)

pub overflow_mul-result-3 : goal.overflow_mul-result-3
overflow_mul-result-3 c = omega (arith, c.type_inv.s 3)

pub overflow_add-result-3 : goal.overflow_add-result-3
overflow_add-result-3 c = let known = c.type_inv.s in omega (arith, known 0, known 1, known 2, known 3)

pub returns : goal.returns
returns c = halves c.args.s.now (search rules) (λ k. omega (arith, c.type_inv.s k)) _ refl
