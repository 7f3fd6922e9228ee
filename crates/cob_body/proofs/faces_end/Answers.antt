-- A list of faces and holes.
use Rattle.cob_rules.specs.Body.{face_run}
use Rattle.cob_body.proofs.Ends.{counted-ends, counted-not}
use Rattle.cob_body.proofs.faces_end.Goals as goal

pub returns-in_err-n : goal.returns-in_err-n
returns-in_err-n c = rw c.from_residual.ensures (counted-not 4 face_run c.args.s.now c.args.at c.in_err-n.ensures.told)

pub returns : goal.returns
returns c = counted-ends face_run c.in_ok-n.ensures.told c.run_end.ensures
