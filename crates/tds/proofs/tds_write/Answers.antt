-- The answer of the writer, as a number; the buffer is as it left it.
use mathlib.Core.Path.{ap, ◌∙◌}
use Rattle.c_codes.specs.Codes.{size_or}
use Rattle.tds.proofs.tds_write.Goals as goal

pub returns : goal.returns
returns c = record { answer = c.written_code.ensures ∙ ap size_or c.write.ensures.answer; out = c.write.ensures.out }
