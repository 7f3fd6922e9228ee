-- `studio_write_judge::whole_row` meets its contract: the two halves of its test are those of `is_whole_row`.
use borrow.Author.Tests.{eq-eqb, ne_eqb}
use Rattle.studio_write_judge.proofs.whole_row.Goals as goal

pub returns-then-n-eq0 : goal.returns-then-n-eq0
returns-then-n-eq0 c = rw (eq-eqb _ _ c.if-n-eq0.true)

pub returns-else-n-eq0 : goal.returns-else-n-eq0
returns-else-n-eq0 c = rw (ne_eqb _ _ c.if-n-eq0.false)
