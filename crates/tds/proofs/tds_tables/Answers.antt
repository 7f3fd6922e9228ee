-- The answer of the tables, as a number; the slices are as it left them.
use mathlib.Core.Path.{ap, ◌∙◌}
use Rattle.c_codes.specs.Codes.{sizes_or}
use Rattle.tds.proofs.tds_tables.Goals as goal

pub returns : goal.returns
returns c = record { answer = c.tabled_code.ensures ∙ ap sizes_or c.tables_bytes.ensures.answer; rows = c.tables_bytes.ensures.filled }
