-- The answer of the rescue, as a number; the slices are as it left them.
use mathlib.Core.Path.{ap, ◌∙◌}
use Rattle.c_rescue.specs.Codes.{cuts_or}
use Rattle.tds.proofs.tds_rescue.Goals as goal

pub returns : goal.returns
returns c = record { answer = c.mended_code.ensures ∙ ap cuts_or c.rescue.ensures.answer; rows = c.rescue.ensures.rows }
