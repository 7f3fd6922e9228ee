use mathlib.Core.Path.{refl}
use native.Mathlib.Omega.{arith}
use Prim.Native.Nat.{◌-◌}
use Rattle.studio_parts_find.proofs.Fathers.{listed_here}
use Rattle.studio_parts_find.proofs.Before.{goes_on}
use Rattle.studio_parts_fill.proofs.Ways.{as_numbers}
use Rattle.studio_parts_fill.proofs.Filling.{fill_none, fill-all, next-is, hand, still, father-read, fill_one}
use Rattle.studio_parts_fill.proofs.fill_numbers.Goals as goal

pub next_child-at-requires : goal.next_child-at-requires
next_child-at-requires c = (listed_here.1, (_, _, c.requires.1.0.spans))

pub loop-at-init : goal.loop-at-init
loop-at-init c = λ kids q l. fill_none as_numbers _ kids _ _ q _ _ (c.next_child-at.ensures _ _ q.spans)

pub father_at-requires : goal.father_at-requires
father_at-requires c =
    let x = c in
    let w = c.loop-at.invariant x.requires.0 x.requires.1.0 x.requires.1.1 in
    let h = hand as_numbers _ _ _ _ x.requires.1.0 _ _ _ _ w c.loop-at-test.true in
    (x.requires.1.0.p, h.own, h.kids, h.rest, x.args.run.stop, h.spans)

pub put_numbers-next-requires : goal.put_numbers-next-requires
put_numbers-next-requires c =
    let x = c in
    let w = c.loop-at.invariant x.requires.0 x.requires.1.0 x.requires.1.1 in
    let l = c.loop-at-test.true in
    let h = hand as_numbers _ _ _ _ x.requires.1.0 _ _ _ _ w l in
    let told = c.father_at.ensures.is _ _ _ _ _ h.spans in
    let r = father-read as_numbers _ _ _ _ x.requires.1.0 _ _ _ _ w l c.father_at.result told in
    let room = still as_numbers _ _ _ _ x.requires.1.0 _ _ _ _ w l in
    let at = next-is as_numbers _ _ _ _ x.requires.1.0 _ _ _ _ w in (
      λ ne. let k = r ne in (omega (arith, k.0, room, w.same, x.requires.1.1), k.1),
      omega (arith, room, at, w.same, x.requires.1.1),
    )

pub next_part-at-requires : goal.next_part-at-requires
next_part-at-requires c =
    let x = c in
    let w = c.loop-at.invariant x.requires.0 x.requires.1.0 x.requires.1.1 in
    let h = hand as_numbers _ _ _ _ x.requires.1.0 _ _ _ _ w c.loop-at-test.true in
    (x.requires.1.0.p, h.own, h.kids, h.rest, h.spans)

pub loop-at-smaller : goal.loop-at-smaller
loop-at-smaller c =
    let x = c in
    let w = c.loop-at.invariant x.requires.0 x.requires.1.0 x.requires.1.1 in
    let l = c.loop-at-test.true in
    let h = hand as_numbers _ _ _ _ x.requires.1.0 _ _ _ _ w l in
    omega (arith, goes_on _ _ _ _ _ _ w.before h c.next_part-at.result (c.next_part-at.ensures _ _ _ _ h.spans), l)

pub loop-at-preserved : goal.loop-at-preserved
loop-at-preserved c = λ kids q k.
    let w = c.loop-at.invariant kids q k in
    let l = c.loop-at-test.true in
    let h = hand as_numbers _ _ _ _ q _ _ _ _ w l in
    let f = c.father_at in
    let told = f.ensures.is _ _ _ _ _ h.spans in
    let room = still as_numbers _ _ _ _ q _ _ _ _ w l in
    let at = next-is as_numbers _ _ _ _ q _ _ _ _ w in
    fill_one as_numbers _ kids _ _ q _ _ _ _ w l f.result told _ refl _ _ c.put_numbers-next.ensures (omega (arith, room, at, w.same, k)) c.next_part-at.result (c.next_part-at.ensures _ _ _ _ h.spans)

pub shape_of-row : goal.shape_of-row
shape_of-row c =
    let x = c in
    (c.loop-at.invariant x.requires.0 x.requires.1.0 x.requires.1.1).same

pub returns : goal.returns
returns c = λ kids q. fill-all as_numbers _ kids _ _ q.0 _ _ _ _ (c.loop-at.invariant kids q.0 q.1) c.loop-at-test.false
