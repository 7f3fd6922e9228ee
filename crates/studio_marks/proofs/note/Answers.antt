-- The slot is none's, taken, or free.
use mathlib.Core.Path.{refl}
use native.Mathlib.Omega.{arith}
use borrow.Author.Tests.{le-leb, lt-leb, ne_eqb, eq-eqb}
use Rattle.studio_marks.specs.Marks.{free, noted}
use Rattle.studio_marks.proofs.note.Goals as goal

pub returns-then-slot-ge5 : goal.returns-then-slot-ge5
unfolding free noted
returns-then-slot-ge5 c =
    let s = c.slot-slot in
    let h = le-leb 5 s.result (omega arith) in record { is = rw (← s.ensures.is, h); marks = rw (← s.ensures.is, h, c.counted.ensures) }

pub returns-then-marks-slot-ne0 : goal.returns-then-marks-slot-ne0
unfolding free
returns-then-marks-slot-ne0 c =
    let s = c.slot-slot in record { is = rw (← s.ensures.is, lt-leb 5 s.result (omega arith), ne_eqb _ _ c.if-marks-slot-ne0.true); marks = refl }

pub returns : goal.returns
unfolding free noted
returns c =
    let s = c.slot-slot in
    let h = lt-leb 5 s.result (omega arith) in record { is = rw (← s.ensures.is, h, eq-eqb _ _ c.if-marks-slot-ne0.false); marks = rw (← s.ensures.is, h) }
