-- The tests are those of the definition.
use borrow.Author.Tests.{eq-eqb, ne_eqb}
use Rattle.stick_records.proofs.is_figure.Goals as goal

pub returns-then-kind-ne1 : goal.returns-then-kind-ne1
returns-then-kind-ne1 c = rw (ne_eqb c.args.kind 1 c.if-kind-ne1.true)

pub returns : goal.returns
returns c = rw (eq-eqb c.args.kind 1 c.if-kind-ne1.false)
