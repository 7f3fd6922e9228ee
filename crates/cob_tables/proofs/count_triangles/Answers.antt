use mathlib.Core.Path.{◌≡◌}
use Prim.Native.Nat.{◌+◌, ◌-◌}
use native.Mathlib.Omega.{arith}
use Rattle.cob_tables.proofs.Faces.{one-most, count-more, counted-all}
use Rattle.cob_tables.proofs.count_triangles.Goals as goal

pub loop-i-init : goal.loop-i-init
loop-i-init c = let e : c.args.count - 0 ≡ c.args.count = omega arith in rw e record { is = omega arith; whole = c.requires; few = omega arith }

pub triangle_at-t-requires : goal.triangle_at-t-requires
triangle_at-t-requires c = (c.loop-i.invariant.whole, omega arith)

pub overflow_add-n : goal.overflow_add-n
overflow_add-n c = omega (arith, c.loop-i.invariant.few, one-most c.is_some.result)

pub loop-i-preserved : goal.loop-i-preserved
loop-i-preserved c =
    let e : c.args.count - (c.loop-i.i + 1) ≡ c.args.count - c.loop-i.i - 1 = omega arith in
    rw e (count-more _ c.loop-i.invariant (omega arith) c.triangle_at-t.ensures c.is_some.ensures)

pub returns : goal.returns
returns c = (counted-all c.loop-i.invariant (omega arith), omega (arith, c.loop-i.invariant.few))
