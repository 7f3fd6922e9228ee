-- The answer of the writer, as a number; the buffer is as it left it.
use mathlib.Core.Path.{ap, ◌∙◌}
use Rattle.c_codes.specs.Codes.{count_or}
use Rattle.tds.proofs.tds_slip_write.Goals as goal

pub returns : goal.returns
returns c = record { answer = c.count_code.ensures ∙ ap count_or c.write.ensures.answer; out = c.write.ensures.out }
