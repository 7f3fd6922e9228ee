-- The answer about the tables, as a number; the slices are as they were left.
use mathlib.Core.Path.{ap, ◌∙◌}
use Rattle.c_codes.specs.Codes.{count_or}
use Rattle.tds.proofs.tds_cob_tables.Goals as goal

pub returns : goal.returns
returns c = record { answer = c.count_code.ensures ∙ ap count_or c.tables.ensures.answer; rows = c.tables.ensures.rows }
