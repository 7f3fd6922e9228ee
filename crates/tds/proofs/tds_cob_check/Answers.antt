-- The answer of the check, as a number.
use mathlib.Core.Path.{ap, ◌∙◌}
use Rattle.c_codes.specs.Codes.{count_or}
use Rattle.tds.proofs.tds_cob_check.Goals as goal

pub returns : goal.returns
returns c = c.count_code.ensures ∙ ap count_or c.check.ensures
