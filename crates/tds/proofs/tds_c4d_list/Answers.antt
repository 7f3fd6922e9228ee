-- The answer of the list, as a number; the slices are as it left them.
use mathlib.Core.Path.{ap, ◌∙◌}
use Rattle.c_codes.specs.Codes.{count_or}
use Rattle.tds.proofs.tds_c4d_list.Goals as goal

pub returns : goal.returns
returns c = record { answer = c.count_code.ensures ∙ ap count_or c.list.ensures.answer; rows = c.list.ensures.rows }
