-- A root has no father to read.
use native.Mathlib.Omega.{arith}
use borrow.Author.Tests.{eq-eqb, ne_eqb}
use Rattle.studio_parts_fill.proofs.depth_in.Goals as goal

pub returns-then-father-eq65535 : goal.returns-then-father-eq65535
returns-then-father-eq65535 c = rw (eq-eqb _ _ c.if-father-eq65535.true)

pub bounds-row-father : goal.bounds-row-father
bounds-row-father c = omega (arith, c.requires c.if-father-eq65535.false)

pub overflow_add-result-2 : goal.overflow_add-result-2
overflow_add-result-2 c = omega (arith, c.requires c.if-father-eq65535.false)

pub returns : goal.returns
returns c = rw (ne_eqb _ _ c.if-father-eq65535.false)
