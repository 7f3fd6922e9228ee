use mathlib.Core.Path.{◌≡◌}
use Prim.Native.Nat.{◌+◌, ◌-◌}
use native.Mathlib.Omega.{arith}
use Rattle.cob_mesh.proofs.Faces.{first_fits}
use Rattle.cob_meshes.proofs.Faces.{count-more}
use Rattle.cob_meshes.proofs.count_faces.Goals as goal

pub face_at-f-requires : goal.face_at-f-requires
face_at-f-requires c = first_fits c.loop.invariant.whole (omega arith)

pub loop-preserved : goal.loop-preserved
loop-preserved c =
    let e : c.args.count - (c.loop.counter + 1) ≡ c.args.count - c.loop.counter - 1 = omega arith in
    rw e (count-more c.loop.invariant (omega arith) c.face_at-f.ensures)
