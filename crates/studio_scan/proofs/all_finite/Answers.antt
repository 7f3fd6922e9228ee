use mathlib.Core.Path.{refl, sym, ap, ◌∙◌}
use mathlib.Core.Logic.{inl, inr}
use Prim.Native.Nat.{◌+◌, ◌*◌}
use Rattle.shared_words.specs.Lists.{every}
use Rattle.shared_words.specs.Floats.{finite}
use Rattle.shared_numbers.specs.Numbers.{long_at}
use Rattle.studio_scan.proofs.Lists.{one_more, every_one, longs_more}
use Rattle.studio_scan.proofs.all_finite.Goals as goal
use Rattle.studio_scan.proofs.all_finite.Goals.{then-not-is_finite, else-not-is_finite}

pub loop-i-init : goal.loop-i-init
unfolding every
loop-i-init c = refl

pub loop-i-preserved : goal.loop-i-preserved
loop-i-preserved c =
    let l = c.loop-i in
    let a = c.args in
    let v = every_one finite (long_at a.s.now (a.at + 4 * l.i)) ∙ sym (ap finite c.load_long.ensures.is) ∙ sym c.is_finite.ensures in
    one_more finite _ _ _ (longs_more a.s.now a.at l.i) l.good c.if-not-is_finite.good l.invariant
    (elim c.if-not-is_finite.branch [
      | then-not-is_finite w ↦ inl (v ∙ w.if-not-is_finite.true, w.good-is)
      | else-not-is_finite w ↦ inr (v ∙ w.if-not-is_finite.false, w.good-is)
    ])
