-- No file stands in the slip.
use mathlib.Core.Path.{sym}
use Rattle.stick_judge.proofs.Finding.{not_in_slip}
use Rattle.stick_judge.proofs.is_own.Goals as goal

pub returns-else-file : goal.returns-else-file
returns-else-file c = rw c.if-file.false (sym (not_in_slip c.args.path.now))
