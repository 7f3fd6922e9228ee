-- As the test says.
use mathlib.Core.Path.{sym, ◌∙◌}
use Rattle.stick_records.proofs.kind_seen.Goals as goal

pub returns-then-is_within : goal.returns-then-is_within
returns-then-is_within c = rw (sym c.is_within.ensures ∙ c.if-is_within.true)

pub returns : goal.returns
returns c = rw (sym c.is_within.ensures ∙ c.if-is_within.false)
