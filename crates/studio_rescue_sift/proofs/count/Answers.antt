use Prim.Native.Nat.{◌-◌, ◌≤◌}
use native.Mathlib.Omega.{arith}
use Rattle.shared_words.proofs.Bytes.{bytes-all}
use Rattle.studio_rescue_sift.proofs.Filling.{counting_start, counting_cut, counting_kept, counted}
use Rattle.studio_rescue_sift.proofs.count.Goals as goal

pub loop-at-init : goal.loop-at-init
loop-at-init c =
    let x = c in
    let a = x.args in
    λ l. counting_start a.version a.file.now a.from a.to l x.requires.order

pub end_of-stop-requires : goal.end_of-stop-requires
end_of-stop-requires c = let g = c.requires in (omega arith, g.ends)

pub judge-requires : goal.judge-requires
judge-requires c =
    let x = c in
    let g = x.requires in
    let h = c.end_of-stop.ensures.within in
    let k = c.loop-at.invariant g.ends in
    let b = g.begins in
    record { begins = omega (arith, k.past); order = omega arith; ends = omega (arith, g.ends); short = g.short; table_is = g.table_is }

pub overflow_add-count : goal.overflow_add-count
overflow_add-count c =
    let g = c.requires in
    let i = c.loop-at.invariant g.ends in
    omega (arith, i.few, i.before, g.ends, g.short)

pub overflow_sub-gone : goal.overflow_sub-gone
overflow_sub-gone c = let e = c.end_of-stop.ensures.within in omega arith

pub overflow_add-gone : goal.overflow_add-gone
overflow_add-gone c =
    let g = c.requires in
    let i = c.loop-at.invariant g.ends in
    let e = c.end_of-stop.ensures.within in
    omega (arith, i.near, i.past, e.0, e.1, g.ends, g.short)

pub loop-at-smaller-in-Some : goal.loop-at-smaller-in-Some
loop-at-smaller-in-Some c = let e = c.end_of-stop.ensures.within in omega arith

pub loop-at-preserved-in-Some : goal.loop-at-preserved-in-Some
loop-at-preserved-in-Some c = λ l.
    let a = c.args in
    let p = c.loop-at in
    let e = c.end_of-stop.ensures in
    counting_cut a.version a.file.now a.from a.to l p.at c.end_of-stop.result p.count p.gone (p.invariant l)
    (record { more = c.loop-at-test.true; stop_is = e.is; goes = e.within.0; stays = e.within.1 }) _ c.in-Some.ensures

pub loop-at-smaller : goal.loop-at-smaller
loop-at-smaller c = let e = c.end_of-stop.ensures.within in omega arith

pub loop-at-preserved : goal.loop-at-preserved
loop-at-preserved c = λ l.
    let a = c.args in
    let p = c.loop-at in
    let e = c.end_of-stop.ensures in
    let b = bytes-all a.file.now (λ i. omega (arith, c.type_inv.file i)) in
    counting_kept a.version a.file.now a.from a.to l p.at c.end_of-stop.result p.count p.gone (p.invariant l)
    (record { more = c.loop-at-test.true; stop_is = e.is; goes = e.within.0; stays = e.within.1 }) b c.in-None.ensures

pub returns : goal.returns
returns c =
    let x = c in
    let a = x.args in
    let p = c.loop-at in
    let l = x.requires.ends in
    let z = counted a.version a.file.now a.from a.to l p.at p.count p.gone (p.invariant l) (omega arith) in
    rw (z.0, z.1)
