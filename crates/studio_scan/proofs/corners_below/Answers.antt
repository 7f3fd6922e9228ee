use mathlib.Core.Path.{refl, sym, ◌∙◌}
use mathlib.Core.Logic.{inl, inr}
use lib.Dec.{ltb}
use Rattle.shared_words.specs.Lists.{every}
use Rattle.studio_scan.proofs.Lists.{one_more, faces-more}
use Rattle.studio_scan.proofs.corners_below.Goals as goal
use Rattle.studio_scan.proofs.corners_below.Goals.{then-not-face_below, else-not-face_below}

pub loop-i-init : goal.loop-i-init
unfolding every
loop-i-init c = refl

pub loop-i-preserved : goal.loop-i-preserved
loop-i-preserved c =
    let l = c.loop-i in
    let a = c.args in
    let v = sym c.face_below.ensures in
    one_more (λ x. ltb x a.limit) _ _ _ (faces-more a.s.now a.at l.i) l.good c.if-not-face_below.good l.invariant
    (elim c.if-not-face_below.branch [
      | then-not-face_below w ↦ inl (v ∙ w.if-not-face_below.true, w.good-is)
      | else-not-face_below w ↦ inr (v ∙ w.if-not-face_below.false, w.good-is)
    ])
