-- A root has no father to read.
use native.Mathlib.Omega.{arith}
use borrow.Author.Tests.{eq-eqb, ne_eqb}
use Rattle.studio_parts_fill.proofs.depth_in_bytes.Goals as goal

pub returns-then-father-eq65535 : goal.returns-then-father-eq65535
returns-then-father-eq65535 c = rw (eq-eqb _ _ c.if-father-eq65535.true)

pub long_at-requires : goal.long_at-requires
long_at-requires c = omega (arith, c.requires c.if-father-eq65535.false)

pub overflow_add-result : goal.overflow_add-result
overflow_add-result c = omega (arith, c.requires c.if-father-eq65535.false, c.long_at.ensures.is)

pub returns : goal.returns
returns c = rw (ne_eqb _ _ c.if-father-eq65535.false, c.long_at.ensures.is)
