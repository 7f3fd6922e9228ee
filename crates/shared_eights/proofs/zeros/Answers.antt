-- No byte's sum goes over into the next, so each byte is marked by itself.
use Rattle.shared_eights.proofs.Marks.{zero-marks}
use Rattle.shared_eights.proofs.zeros.Goals as goal

pub returns : goal.returns
returns c bs e = rw e.is (zero-marks bs e.bytes e.eight)
