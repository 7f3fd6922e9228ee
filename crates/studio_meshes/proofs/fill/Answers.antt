use native.Mathlib.Omega.{arith}
use Rattle.studio_mesh_find.proofs.Parts.{all_listed}
use Rattle.studio_mesh_find.proofs.Objects.{object-begins, found, rest-here, next-on}
use Rattle.studio_meshes.proofs.Filling.{fill_none, fill-all, fill-fits, fill_more, hand}
use Rattle.studio_meshes.proofs.fill.Goals as goal

pub next_child-at-requires : goal.next_child-at-requires
next_child-at-requires g c = (all_listed.1, (_, _, c.requires.1.0.spans))

pub loop-at-init : goal.loop-at-init
loop-at-init g c = λ kids q l. fill_none _ _ _ _ q _ _ g.met.W.Wanted.none _ (c.next_child-at.ensures _ _ q.spans)

pub object_at-object-requires : goal.object_at-object-requires
object_at-object-requires g c =
    let x = c in
    let q = x.requires.1.0 in
    let w = c.loop-at.invariant x.requires.0 q x.requires.1.1 in
    object-begins q.p q.id q.t _ _ _ q.name_at q.name_length w.done _ w.before c.loop-at-test.true

pub put_held-next-requires : goal.put_held-next-requires
put_held-next-requires g c =
    let x = c in
    let q = x.requires.1.0 in
    let w = c.loop-at.invariant x.requires.0 q x.requires.1.1 in
    let l = c.loop-at-test.true in
    let h = hand _ _ _ _ q w.done _ w.before l in
    let o = c.object_at-object in (
      q.p,
      h.own,
      h.kids,
      h.rest,
      x.args.objects.stop,
      h.spans,
      found q.p q.id q.t _ _ _ q.name_at q.name_length w.done _ w.before l o.result o.ensures,
      fill-fits _ _ _ _ q _ _ _ _ _ w l g.met.W.Wanted.more x.requires.1.1,
    )

pub next_child-at-requires-in-loop-at : goal.next_child-at-requires-in-loop-at
next_child-at-requires-in-loop-at g c =
    let x = c in
    let q = x.requires.1.0 in
    let w = c.loop-at.invariant x.requires.0 q x.requires.1.1 in
    let o = c.object_at-object in
    (all_listed.1, (q.p, _, rest-here q.p q.id q.t _ _ _ q.name_at q.name_length w.done _ w.before c.loop-at-test.true o.result o.ensures))

pub loop-at-smaller : goal.loop-at-smaller
loop-at-smaller g c =
    let x = c in
    let q = x.requires.1.0 in
    let w = c.loop-at.invariant x.requires.0 q x.requires.1.1 in
    let l = c.loop-at-test.true in
    let o = c.object_at-object in
    let r = rest-here q.p q.id q.t _ _ _ q.name_at q.name_length w.done _ w.before l o.result o.ensures in
    omega (arith, next-on q.p q.id q.t _ _ _ q.name_at q.name_length w.done _ w.before l o.result o.ensures c.next_child-at-in-loop-at.result (c.next_child-at-in-loop-at.ensures _ _ r))

pub loop-at-preserved : goal.loop-at-preserved
loop-at-preserved g c = λ kids q k.
    let w = c.loop-at.invariant kids q k in
    let l = c.loop-at-test.true in
    let o = c.object_at-object in
    let h = hand _ _ _ _ q w.done _ w.before l in
    let is = found q.p q.id q.t _ _ _ q.name_at q.name_length w.done _ w.before l o.result o.ensures in
    let r = rest-here q.p q.id q.t _ _ _ q.name_at q.name_length w.done _ w.before l o.result o.ensures in
    fill_more _ _ _ _ q _ _ _ _ _ w l g.met.W.Wanted.more o.result o.ensures _ _ (c.put_held-next.ensures _ _ _ _ _ h.spans is)
    (fill-fits _ _ _ _ q _ _ _ _ _ w l g.met.W.Wanted.more k) c.next_child-at-in-loop-at.result (c.next_child-at-in-loop-at.ensures _ _ r)

pub shape_of-row : goal.shape_of-row
shape_of-row g c =
    let x = c in
    (c.loop-at.invariant x.requires.0 x.requires.1.0 x.requires.1.1).same

pub returns : goal.returns
returns g c = λ kids q. fill-all _ _ _ _ q.0 _ _ _ _ _ (c.loop-at.invariant kids q.0 q.1) c.loop-at-test.false
