use mathlib.Core.Path.{◌≡◌, refl}
use Prim.Native.Nat.{◌-◌, ◌/◌}
use native.Mathlib.Omega.{arith}
use lib.ListN.{length}
use Rattle.slip_write_judge.proofs.Judging.{given-rows}
use Rattle.slip_write.proofs.Rows.{putting_start, putting_fits, putting_room, putting_more}
use Rattle.slip_write.proofs.put_entries.Goals as goal

pub loop-i-init : goal.loop-i-init
loop-i-init c =
    let start = c in
    let a = start.args in
    let g = given-rows a.entries.now in
    (refl, putting_start a.names.now a.entries.now (length a.entries.now / 16) a.at a.out.now (rw g at start.requires.all) (rw g at start.requires.entries_in_bounds))

pub put_entry-next-requires : goal.put_entry-next-requires
put_entry-next-requires c =
    let l = c.loop-i in
    rw c.row.ensures (putting_fits l.invariant.1 (omega arith), putting_room l.invariant.1 (omega arith))

pub loop-i-preserved : goal.loop-i-preserved
loop-i-preserved c =
    let put = c.before.before.before in
    let l = put.loop-i in
    let start = put.before.before.before.before.before.before.before.before in
    let p = put.put_entry-next.ensures in
    (l.invariant.0, putting_more l.invariant.1 (omega arith) (omega (arith, start.requires.entries_in_bounds)) c.before.out-1.given (rw put.row.ensures at p))

pub shape_of-out : goal.shape_of-out
shape_of-out c = c.loop-i.invariant.1.long

pub returns : goal.returns
returns c =
    let l = c.loop-i in
    let s = c.args.entries.now in
    let f = l.invariant.1.few in
    let e : l.i ≡ length s / 16 = omega (arith, l.invariant.0) in
    rw (given-rows s) (rw e at l.invariant.1.puts)
