use mathlib.Core.Path.{◌≡◌, refl}
use Prim.Native.Nat.{◌+◌, ◌-◌}
use native.Mathlib.Omega.{arith}
use Rattle.slip_check.proofs.Names.{whole-first}
use Rattle.slip_read.proofs.Rows.{filling_on}
use Rattle.slip_read.proofs.fill.Goals as goal

pub loop-init : goal.loop-init
loop-init c =
    let n : c.args.count - 0 ≡ c.args.count = omega arith in
    rw n record { whole = c.requires.0; room = omega arith; low = omega arith; long = refl; near = omega arith; fills = refl }

pub put_entry-at-requires : goal.put_entry-at-requires
put_entry-at-requires c =
    let l = c.loop in
    let i = l.invariant in
    (whole-first c.args.s.now l.o (c.args.count - l.counter) (omega arith) i.whole, omega (arith, i.near), omega (arith, i.room))

pub byte_at-requires : goal.byte_at-requires
byte_at-requires c =
    let l = c.loop in
    omega (arith, whole-first c.args.s.now l.o (c.args.count - l.counter) (omega arith) l.invariant.whole)

pub overflow_add-o-in-loop : goal.overflow_add-o-in-loop
overflow_add-o-in-loop c = omega (arith, c.loop.invariant.near)

pub loop-preserved : goal.loop-preserved
loop-preserved c =
    let l = c.loop in
    let b = c.byte_at.ensures in
    let left : c.args.count - (l.counter + 1) ≡ c.args.count - l.counter - 1 = omega arith in
    rw (b.0, left) (filling_on l.invariant (omega arith) c.put_entry-at.ensures (omega (arith, b.0, b.1)))

pub shape_of-row : goal.shape_of-row
shape_of-row c = c.loop.invariant.long

pub returns : goal.returns
returns c =
    let l = c.loop in
    let z : c.args.count - l.counter ≡ 0 = omega arith in
    rw z at l.invariant.fills
