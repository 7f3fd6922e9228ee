-- The tests are those of the definition.
use native.Mathlib.Omega.{arith}
use borrow.Author.Tests.{eq-eqb, ne_eqb}
use Rattle.stick_records.proofs.listed.Goals as goal

pub returns-then-kind-ne2 : goal.returns-then-kind-ne2
returns-then-kind-ne2 c = rw (ne_eqb c.args.kind 2 c.if-kind-ne2.true)

pub returns-then-size-eq0 : goal.returns-then-size-eq0
returns-then-size-eq0 c = rw (eq-eqb c.args.kind 2 c.if-kind-ne2.false) (omega arith)

pub returns : goal.returns
returns c = rw (eq-eqb c.args.kind 2 c.if-kind-ne2.false)
