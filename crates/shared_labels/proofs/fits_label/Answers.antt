-- A name fits where a label takes all of it.
use native.Mathlib.Omega.{arith}
use lib.Seq.{slice, length-slice}
use Rattle.shared_words.proofs.Labels.{label_exactly}
use Rattle.shared_labels.proofs.fits_label.Goals as goal

pub returns : goal.returns
returns c =
    let a = c.args in
    rw (label_exactly (slice a.at a.end a.s.now), c.label_size.ensures, length-slice a.at a.end a.s.now (omega arith))
