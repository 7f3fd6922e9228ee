use mathlib.Core.Path.{refl, ◌∙◌}
use native.Mathlib.Omega.{arith}
use lib.ListN.{length-set}
use Rattle.shared_words.specs.Floats.{finite}
use Rattle.shared_numbers.proofs.Numbers.{long-passes}
use Rattle.studio_mesh_rows.proofs.Fill.{float-more}
use Rattle.studio_mesh_rows.proofs.fill_floats.Goals as goal

pub loop-i-init : goal.loop-i-init
loop-i-init c = (refl, refl)

pub float_at-requires : goal.float_at-requires
float_at-requires c =
    let x = c in
    (omega arith, long-passes finite x.args.s.now x.args.at x.args.n x.requires.2 c.loop-i.i c.loop-i-test.true)

pub loop-i-preserved : goal.loop-i-preserved
loop-i-preserved c =
    let x = c in
    let l = c.loop-i in (
      length-set l.row l.i c.float_at.result ∙ l.invariant.0,
      rw (l.invariant.1, c.float_at.ensures) (float-more x.args.s.now x.args.at l.i x.args.row.now (omega arith)),
    )
