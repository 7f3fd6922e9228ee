-- `studio_figure_objects::none_or_each` meets its contract.
use borrow.Author.Tests.{eq-eqb, ne_eqb}
use Rattle.studio_figure_objects.proofs.none_or_each.Goals as goal

pub returns-then-words-eq0 : goal.returns-then-words-eq0
returns-then-words-eq0 c = let e = eq-eqb _ _ c.if-words-eq0.true in rw e

pub returns-else-words-eq0 : goal.returns-else-words-eq0
returns-else-words-eq0 c = let e = ne_eqb _ _ c.if-words-eq0.false in rw e
