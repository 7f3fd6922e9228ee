-- So many bytes.
use native.Mathlib.Omega.{arith}
use Rattle.cob_body.proofs.Ends.{skip-fits, skip-not}
use Rattle.cob_body.proofs.skip_bytes.Goals as goal

pub returns-then-s-at : goal.returns-then-s-at
returns-then-s-at c = skip-not _ _ _ c.if-s-at.true

pub returns : goal.returns
returns c = skip-fits _ _ _ (omega arith)
