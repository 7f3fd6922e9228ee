use mathlib.Core.Path.{◌≡◌, refl, sym, ◌∙◌}
use Prim.Native.Nat.{◌+◌, ◌-◌}
use native.Mathlib.Omega.{arith}
use Rattle.cob_mesh.proofs.Below.{face-good, face-bad, passed-all}
use Rattle.cob_mesh.proofs.Faces.{first_fits}
use Rattle.cob_mesh.proofs.faces_below.Goals as goal

pub loop-init : goal.loop-init
loop-init c = let e : c.args.count - 0 ≡ c.args.count = omega arith in rw e record { is = refl; whole = c.requires }

pub face_at-f-requires : goal.face_at-f-requires
face_at-f-requires c = first_fits c.loop.invariant.whole (omega arith)

pub corners_below-requires : goal.corners_below-requires
corners_below-requires c = c.face_at-f.ensures.whole

pub returns-then-not-corners_below : goal.returns-then-not-corners_below
returns-then-not-corners_below c = sym (face-bad c.loop.invariant (omega arith) c.face_at-f.ensures (sym c.corners_below.ensures ∙ c.if-not-corners_below.true))

pub overflow_mul-o : goal.overflow_mul-o
overflow_mul-o c = omega (arith, c.face_at-f.ensures.whole)

pub overflow_add-o : goal.overflow_add-o
overflow_add-o c = omega (arith, c.face_at-f.ensures.whole)

pub loop-preserved : goal.loop-preserved
loop-preserved c =
    let e : c.args.count - (c.loop.counter + 1) ≡ c.args.count - c.loop.counter - 1 = omega arith in
    rw e (face-good c.loop.invariant (omega arith) c.face_at-f.ensures (sym c.corners_below.ensures ∙ c.if-not-corners_below.false))

pub returns : goal.returns
returns c = sym (passed-all c.loop.invariant (omega arith))
