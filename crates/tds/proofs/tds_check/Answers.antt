-- The answer of the check, as a number.
use mathlib.Core.Path.{ap, ◌∙◌}
use Rattle.c_codes.specs.Codes.{records_or}
use Rattle.tds.proofs.tds_check.Goals as goal

pub returns : goal.returns
returns c = c.checked_code.ensures ∙ ap records_or c.check.ensures
