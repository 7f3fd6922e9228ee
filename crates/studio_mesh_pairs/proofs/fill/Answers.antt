use mathlib.Core.Path.{◌≡◌, refl, ◌∙◌}
use native.Mathlib.Omega.{arith}
use lib.ListN.{length-set}
use Rattle.studio_mesh_pairs.proofs.Zeros.{none_yet, one_more}
use Rattle.studio_mesh_pairs.proofs.fill.Goals as goal

pub loop-i-init : goal.loop-i-init
loop-i-init g c = (refl, none_yet c.args.value c.args.from c.args.row.now (omega arith))

pub loop-i-preserved : goal.loop-i-preserved
loop-i-preserved g c =
    let x = c in
    let l = c.loop-i in (
      length-set l.row l.i c.args.value ∙ l.invariant.0,
      rw l.invariant.1 (one_more c.args.value x.args.from l.i x.args.row.now (omega arith) (omega arith)),
    )

pub returns : goal.returns
returns g c =
    let e : c.loop-i.i ≡ c.args.to = omega arith in
    rw (← e) c.loop-i.invariant.1
