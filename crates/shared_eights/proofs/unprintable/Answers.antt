-- No byte's sum goes over into the next, so each byte is marked by itself.
use Rattle.shared_eights.proofs.Marks.{unprintable_marks}
use Rattle.shared_eights.proofs.unprintable.Goals as goal

pub returns : goal.returns
returns c bs e = rw e.is (unprintable_marks bs e.bytes e.eight)
