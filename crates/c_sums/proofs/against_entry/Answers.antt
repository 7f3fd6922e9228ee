-- The two bytes of the number are the sums.
use mathlib.Core.Path.{ap, ◌∙◌}
use Rattle.c_sums.specs.Numbers.{zero_or}
use Rattle.c_sums.proofs.against_entry.Goals as goal

pub returns : goal.returns
returns c = c.matched_code.ensures ∙ ap zero_or c.matches.ensures
