use mathlib.Core.Path.{◌≡◌}
use Prim.Native.Nat.{◌+◌, ◌-◌}
use native.Mathlib.Omega.{arith}
use Rattle.cob_tables.proofs.Faces.{filling_starts, triangle-fits, fill_more, filled-all}
use Rattle.cob_tables.proofs.fill_corners.Goals as goal

pub loop-i-init : goal.loop-i-init
loop-i-init c = let e : c.args.count - 0 ≡ c.args.count = omega arith in rw e (filling_starts _ _ _ _ c.requires.0 c.requires.1)

pub triangle_at-t-requires : goal.triangle_at-t-requires
triangle_at-t-requires c = (c.loop-i.invariant.whole, omega arith)

pub put_triangle-to-requires : goal.put_triangle-to-requires
put_triangle-to-requires c = triangle-fits c.loop-i.invariant (omega arith) c.triangle_at-t.ensures

pub loop-i-preserved : goal.loop-i-preserved
loop-i-preserved c =
    let e : c.args.count - (c.loop-i.i + 1) ≡ c.args.count - c.loop-i.i - 1 = omega arith in
    rw e (fill_more c.loop-i.invariant (omega arith) c.triangle_at-t.ensures c.put_triangle-to.ensures (omega arith))

pub shape_of-row : goal.shape_of-row
shape_of-row c = c.loop-i.invariant.row-long

pub returns : goal.returns
returns c = filled-all c.loop-i.invariant (omega arith)
