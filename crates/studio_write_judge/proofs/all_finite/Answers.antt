use native.Mathlib.Omega.{arith}
use mathlib.Core.Path.{sym, ◌∙◌}
use lib.Ieee.{nan}
use Rattle.studio_write_judge.specs.Judged.{finite_float}
use Rattle.studio_write_judge.proofs.FirstFault.{is_finite_float}
use Rattle.shared_words.proofs.FirstFault.{told_none, told-good, told-bad, told-all}
use Rattle.studio_write_judge.proofs.all_finite.Goals as goal
use Rattle.studio_write_judge.proofs.all_finite.Goals.{then-not-is_finite, else-not-is_finite}

pub loop-x-init : goal.loop-x-init
loop-x-init c = told_none finite_float _

pub loop-x-preserved : goal.loop-x-preserved
loop-x-preserved c =
    let xs = c.args.vertices.now in
    let l = c.loop-x in
    let e = sym (c.is_finite.ensures.value ∙ is_finite_float _) in
    elim c.if-not-is_finite.branch [
      | then-not-is_finite w ↦ rw w.good-is (told-bad finite_float xs l.x-index nan (omega arith) l.good l.invariant (e ∙ w.if-not-is_finite.true))
      | else-not-is_finite w ↦ rw w.good-is (told-good finite_float xs l.x-index nan (omega arith) l.good l.invariant (e ∙ w.if-not-is_finite.false))
    ]

pub returns : goal.returns
returns c = told-all finite_float _ c.loop-x.good c.loop-x.x-index (omega arith) c.loop-x.invariant
