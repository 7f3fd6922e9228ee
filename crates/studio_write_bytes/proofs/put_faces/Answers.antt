use mathlib.Core.Path.{◌≡◌, refl}
use native.Mathlib.Omega.{arith}
use Rattle.studio_write_judge.specs.Judged.{triples}
use Rattle.shared_numbers.proofs.Put.{put-none, put_then}
use Rattle.studio_write_bytes.proofs.Packed.{face-more}
use Rattle.studio_write_bytes.proofs.put_faces.Goals as goal

pub loop-i-init : goal.loop-i-init
loop-i-init c = (refl, omega arith, put-none _ _)

pub loop-i-preserved : goal.loop-i-preserved
loop-i-preserved c =
    let a = c.args in
    let l = c.loop-i in
    let put = c.put_face-next in (
      omega arith,
      omega (arith, put.ensures.ends),
      rw (face-more a.corners.now l.i (omega arith)) (put_then (omega arith) l.invariant.2 put.ensures),
    )

pub shape_of-out : goal.shape_of-out
shape_of-out c = c.loop-i.invariant.0

pub returns : goal.returns
returns c =
    let l = c.loop-i in
    let all : l.i ≡ triples c.args.corners.now = omega arith in
    rw all at l.invariant.2
