-- The answer of the reader, as a number; the slice is as it left it.
use mathlib.Core.Path.{ap, ◌∙◌}
use Rattle.c_codes.specs.Codes.{count_or}
use Rattle.tds.proofs.tds_slip_read.Goals as goal

pub returns : goal.returns
returns c = record { answer = c.count_code.ensures ∙ ap count_or c.read.ensures.answer; entries = c.read.ensures.row }
