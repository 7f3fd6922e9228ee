use mathlib.Core.Path.{refl}
use native.Mathlib.Omega.{arith}
use lib.ListN.{length-set}
use Rattle.studio_mesh_rows.proofs.Fill.{face-more}
use Rattle.studio_mesh_rows.proofs.fill_corners.Goals as goal

pub loop-i-init : goal.loop-i-init
loop-i-init c = (refl, refl)

pub overflow_cast-row : goal.overflow_cast-row
overflow_cast-row c = omega (arith, c.word_at.ensures.small)

pub overflow_cast-row-in-loop-i : goal.overflow_cast-row-in-loop-i
overflow_cast-row-in-loop-i c = omega (arith, c.word_at-in-loop-i.ensures.small)

pub bounds-row-i-in-loop-i : goal.bounds-row-i-in-loop-i
bounds-row-i-in-loop-i c = simp length-set (omega arith)

pub overflow_cast-row-in-loop-i-2 : goal.overflow_cast-row-in-loop-i-2
overflow_cast-row-in-loop-i-2 c = omega (arith, c.word_at-in-loop-i-2.ensures.small)

pub bounds-row-i-in-loop-i-2 : goal.bounds-row-i-in-loop-i-2
bounds-row-i-in-loop-i-2 c = simp length-set (omega arith)

pub loop-i-preserved : goal.loop-i-preserved
loop-i-preserved c =
    let x = c in
    let l = c.loop-i in
    let a = c.word_at in
    let b = c.word_at-in-loop-i in
    let d = c.word_at-in-loop-i-2 in (
      simp length-set l.invariant.0,
      rw l.invariant.1 (face-more x.args.s.now x.args.at l.i x.args.row.now (omega arith) a.result b.result d.result a.ensures.is b.ensures.is d.ensures.is),
    )
