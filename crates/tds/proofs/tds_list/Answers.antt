-- The answer of the list, as a number; the slice is as it left it.
use mathlib.Core.Path.{ap, ◌∙◌}
use Rattle.c_codes.specs.Codes.{records_or}
use Rattle.tds.proofs.tds_list.Goals as goal

pub returns : goal.returns
returns c = record { answer = c.checked_code.ensures ∙ ap records_or c.list_bytes.ensures.answer; records = c.list_bytes.ensures.filled }
