-- No chunk, or the corners behind its count word.
use native.Mathlib.Omega.{arith}
use borrow.Author.Tests.{eq-eqb, ne_eqb}
use Rattle.studio_marks.specs.Marks.{corners_at}
use Rattle.studio_marks.proofs.Places.{faces-there}
use Rattle.studio_marks.proofs.corners_fine.Goals as goal

pub returns-then-mark-eq0 : goal.returns-then-mark-eq0
unfolding corners_at
returns-then-mark-eq0 c = rw (eq-eqb _ _ c.if-mark-eq0.true)

pub overflow_add-mark : goal.overflow_add-mark
overflow_add-mark c = let w = faces-there _ _ c.if-mark-eq0.false c.requires in omega arith

pub word_at-f-requires : goal.word_at-f-requires
word_at-f-requires c = let w = faces-there _ _ c.if-mark-eq0.false c.requires in omega arith

pub overflow_add-mark-2 : goal.overflow_add-mark-2
overflow_add-mark-2 c = let w = faces-there _ _ c.if-mark-eq0.false c.requires in omega arith

pub corners_below-requires : goal.corners_below-requires
corners_below-requires c = let w = faces-there _ _ c.if-mark-eq0.false c.requires in
    let e = c.word_at-f.ensures.is in
    omega arith

pub returns : goal.returns
unfolding corners_at
returns c = rw (ne_eqb _ _ c.if-mark-eq0.false, ← c.word_at-f.ensures.is) c.corners_below.ensures
