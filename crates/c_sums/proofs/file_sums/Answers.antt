-- The answer of the sums, as a number.
use mathlib.Core.Path.{sym, ap, subst, ◌∙◌}
use Rattle.c_sums.specs.Numbers.{SumsProper, sums_or}
use Rattle.c_sums.proofs.Numbers.{sums_proper_lem}
use Rattle.c_sums.proofs.file_sums.Goals as goal

pub sums_code-requires : goal.sums_code-requires
sums_code-requires c = subst SumsProper (sym c.entry_sums.ensures) (sums_proper_lem c.args.file.now)

pub returns : goal.returns
returns c = c.sums_code.ensures ∙ ap sums_or c.entry_sums.ensures
