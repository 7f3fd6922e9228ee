-- One step up, or none.
use mathlib.Core.Path.{sym, ◌∙◌}
use Rattle.cob_owner.proofs.Up.{up, stop}
use Rattle.cob_owner.proofs.+topmost.Goals as goal

pub returns-then-p-k : goal.returns-then-p-k
returns-then-p-k t c = c.topmost.ensures ∙ sym (up _ _ c.if-p-k.true)

pub returns-else-p-k : goal.returns-else-p-k
returns-else-p-k t c = sym (stop _ _ c.if-p-k.false)
