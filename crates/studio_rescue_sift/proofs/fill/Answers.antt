use Prim.Native.Nat.{◌-◌, ◌≤◌}
use native.Mathlib.Omega.{arith}
use Rattle.shared_words.proofs.Bytes.{bytes-all}
use Rattle.studio_rescue_sift.proofs.Filling.{Here, filling_start, cut-room, filling_cut, kept-room, filling_kept, filling_ends}
use Rattle.studio_rescue_sift.proofs.fill.Goals as goal

pub loop-child-init : goal.loop-child-init
loop-child-init c =
    let x = c in
    let a = x.args in
    λ l. filling_start a.version a.file.now a.from a.to l a.cuts.now a.at a.out.now x.requires.within.order

pub end_of-stop-requires : goal.end_of-stop-requires
end_of-stop-requires c = let g = c.requires.within in (omega arith, g.ends)

pub judge-requires : goal.judge-requires
judge-requires c =
    let g = c.requires.within in
    let h = c.end_of-stop.ensures.within in
    let k = c.loop-child.invariant g.ends in
    let b = g.begins in
    record { begins = omega (arith, k.past); order = omega arith; ends = omega (arith, g.ends); short = g.short; table_is = g.table_is }

pub overflow_sub-stop : goal.overflow_sub-stop
overflow_sub-stop c = let e = c.end_of-stop.ensures.within in omega arith

pub put_cut-row-requires : goal.put_cut-row-requires
put_cut-row-requires c =
    let a = c.args in
    let s = a.file.now in
    let w = c.requires in
    let l = w.within.ends in
    let p = c.loop-child in
    let e = c.end_of-stop.ensures in
    let h : Here a.version s a.from a.to l p.child c.end_of-stop.result = record { more = c.loop-child-test.true; stop_is = e.is; goes = e.within.0; stays = e.within.1 } in
    let g = w.within in
    let room = cut-room a.version s a.from a.to l a.cuts.now a.at a.out.now p.cuts p.out p.child p.row p.next (p.invariant l) c.end_of-stop.result h c.in-Some.number c.in-Some.ensures w.cuts-room in
    (room, omega (arith, h.goes, h.stays, g.ends, g.short), omega (arith, h.goes, h.stays, g.ends, g.short))

pub overflow_sub-stop-in-None : goal.overflow_sub-stop-in-None
overflow_sub-stop-in-None c = let e = c.end_of-stop.ensures.within in omega arith

pub put_part-next-requires : goal.put_part-next-requires
put_part-next-requires c =
    let a = c.args in
    let s = a.file.now in
    let w = c.requires in
    let l = w.within.ends in
    let p = c.loop-child in
    let e = c.end_of-stop.ensures in
    let h : Here a.version s a.from a.to l p.child c.end_of-stop.result = record { more = c.loop-child-test.true; stop_is = e.is; goes = e.within.0; stays = e.within.1 } in
    let b = bytes-all s (λ i. omega (arith, c.type_inv.file i)) in
    (omega (arith, h.goes, h.stays, l), kept-room a.version s a.from a.to l a.cuts.now a.at a.out.now p.cuts p.out p.child p.row p.next (p.invariant l) c.end_of-stop.result h b c.in-None.ensures w.out_room)

pub loop-child-smaller-in-Some : goal.loop-child-smaller-in-Some
loop-child-smaller-in-Some c = let e = c.end_of-stop.ensures.within in omega arith

pub loop-child-preserved-in-Some : goal.loop-child-preserved-in-Some
loop-child-preserved-in-Some c = λ l.
    let a = c.args in
    let s = a.file.now in
    let p = c.loop-child in
    let e = c.end_of-stop.ensures in
    let h : Here a.version s a.from a.to l p.child c.end_of-stop.result = record { more = c.loop-child-test.true; stop_is = e.is; goes = e.within.0; stays = e.within.1 } in
    let q = c.put_cut-row in
    filling_cut a.version s a.from a.to l a.cuts.now a.at a.out.now p.cuts p.out p.child p.row p.next (p.invariant l) c.end_of-stop.result h c.in-Some.number c.in-Some.ensures _ q.result q.auto.row q.ensures

pub loop-child-smaller : goal.loop-child-smaller
loop-child-smaller c = let e = c.end_of-stop.ensures.within in omega arith

pub loop-child-preserved : goal.loop-child-preserved
loop-child-preserved c = λ l.
    let a = c.args in
    let s = a.file.now in
    let p = c.loop-child in
    let e = c.end_of-stop.ensures in
    let h : Here a.version s a.from a.to l p.child c.end_of-stop.result = record { more = c.loop-child-test.true; stop_is = e.is; goes = e.within.0; stays = e.within.1 } in
    let b = bytes-all s (λ i. omega (arith, c.type_inv.file i)) in
    let q = c.put_part-next in
    filling_kept a.version s a.from a.to l a.cuts.now a.at a.out.now p.cuts p.out p.child p.row p.next (p.invariant l) c.end_of-stop.result h b c.in-None.ensures (omega (arith, c.requires.out_room)) _ q.result q.auto.out q.ensures

pub shape_of-cuts : goal.shape_of-cuts
shape_of-cuts c = (c.loop-child.invariant c.requires.within.ends).cuts-long

pub shape_of-out : goal.shape_of-out
shape_of-out c = (c.loop-child.invariant c.requires.within.ends).out_long

pub returns : goal.returns
returns c =
    let x = c in
    let a = x.args in
    let l = x.requires.within.ends in
    let p = c.loop-child in
    filling_ends a.version a.file.now a.from a.to l a.cuts.now a.at a.out.now p.cuts p.out p.child p.row p.next (p.invariant l) (omega arith)
