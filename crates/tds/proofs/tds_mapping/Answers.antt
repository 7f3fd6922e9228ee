-- The answer of the mapping, as a number; the slice is as it left it.
use mathlib.Core.Path.{ap, ◌∙◌}
use Rattle.c_codes.specs.Codes.{numbers_or}
use Rattle.tds.proofs.tds_mapping.Goals as goal

pub returns : goal.returns
returns c = record { answer = c.mapped_code.ensures ∙ ap numbers_or c.mapping_bytes.ensures.answer; row = c.mapping_bytes.ensures.filled }
