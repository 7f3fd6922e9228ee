-- The answer of the judge, as a number.
use mathlib.Core.Path.{ap, ◌∙◌}
use Rattle.c_stick.specs.Codes.{one_or}
use Rattle.tds.proofs.tds_stick_judge.Goals as goal

pub returns : goal.returns
returns c = c.judged_code.ensures ∙ ap one_or c.judge.ensures
