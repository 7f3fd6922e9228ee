-- Whether a file begins with the header.
use mathlib.Core.Path.{◌∙◌}
use Rattle.cob_check.proofs.Header.{begins}
use Rattle.cob_check.proofs.is_headed.Goals as goal

pub returns : goal.returns
returns c = c.starts_with.ensures.value ∙ begins c.args.file.now
