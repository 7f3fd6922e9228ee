use mathlib.Core.Path.{refl, sym, ap, ◌∙◌}
use mathlib.Core.List.{[]}
use native.Mathlib.Omega.{arith}
use lib.ListN.{length, length-append}
use Rattle.studio_mesh_find.proofs.Parts.{all_listed}
use Rattle.studio_mesh_find.proofs.Objects.{object-begins, found, rest-here, next-on, none_in, one_in}
use Rattle.studio_meshes.specs.Fit.{held_in}
use Rattle.studio_meshes.proofs.Filling.{before-none, before-all, before-few, before_more, hand}
use Rattle.studio_meshes.proofs.count_meshes.Goals as goal
use Rattle.studio_meshes.proofs.count_meshes.Goals.{then-object, else-object}

pub next_child-at-requires : goal.next_child-at-requires
next_child-at-requires c = let q = c.requires in (all_listed.1, (_, _, q.1.spans))

pub loop-at-init : goal.loop-at-init
loop-at-init c = λ kids q. ([], refl, before-none _ _ _ _ q _ (c.next_child-at.ensures _ _ q.spans))

pub object_at-object-requires : goal.object_at-object-requires
object_at-object-requires c =
    let q = c.requires in
    let w = c.loop-at.invariant q.0 q.1 in
    object-begins q.1.p q.1.id q.1.t _ _ _ q.1.name_at q.1.name_length w.0 _ w.2 c.loop-at-test.true

pub overflow_add-n : goal.overflow_add-n
overflow_add-n c =
    let q = c.requires in
    let w = c.loop-at.invariant q.0 q.1 in
    omega (arith, w.1, before-few _ _ _ _ q.1 w.0 _ w.2, q.1.spans.stands.stays, q.1.spans.stands.small)

pub next_child-at-requires-in-loop-at : goal.next_child-at-requires-in-loop-at
next_child-at-requires-in-loop-at c =
    let q = c.requires in
    let w = c.loop-at.invariant q.0 q.1 in
    let o = c.object_at-object in
    (all_listed.1, (q.1.p, _, rest-here q.1.p q.1.id q.1.t _ _ _ q.1.name_at q.1.name_length w.0 _ w.2 c.loop-at-test.true o.result o.ensures))

pub loop-at-smaller : goal.loop-at-smaller
loop-at-smaller c =
    let q = c.requires in
    let w = c.loop-at.invariant q.0 q.1 in
    let t = c.loop-at-test.true in
    let o = c.object_at-object in
    let r = rest-here q.1.p q.1.id q.1.t _ _ _ q.1.name_at q.1.name_length w.0 _ w.2 t o.result o.ensures in
    omega (arith, next-on q.1.p q.1.id q.1.t _ _ _ q.1.name_at q.1.name_length w.0 _ w.2 t o.result o.ensures c.next_child-at-in-loop-at.result (c.next_child-at-in-loop-at.ensures _ _ r))

pub loop-at-preserved : goal.loop-at-preserved
loop-at-preserved c = λ kids q.
    let w = c.loop-at.invariant kids q in
    let t = c.loop-at-test.true in
    let o = c.object_at-object in
    let h = hand _ _ _ _ q w.0 _ w.2 t in
    let is = found q.p q.id q.t _ _ _ q.name_at q.name_length w.0 _ w.2 t o.result o.ensures in
    let r = rest-here q.p q.id q.t _ _ _ q.name_at q.name_length w.0 _ w.2 t o.result o.ensures in
    let held = held_in c.loop-at.at h.own h.kids in (
      _,
      length-append w.0 held ∙ elim c.if-object.branch [
        | then-object v ↦ omega (arith, w.1, v.n-is, ap length (one_in q.p h.own h.kids h.rest _ _ _ h.spans o.result is v.if-object.true))
        | else-object v ↦ omega (arith, w.1, v.n-is, ap length (none_in q.p h.own h.kids h.rest _ _ _ h.spans o.result is v.if-object.false))
      ],
      before_more _ _ _ _ q w.0 _ w.2 t o.result o.ensures c.next_child-at-in-loop-at.result (c.next_child-at-in-loop-at.ensures _ _ r),
    )

pub returns : goal.returns
returns c = λ kids q.
    let w = c.loop-at.invariant kids q in
    sym (ap length (before-all _ _ _ _ q w.0 _ w.2 c.loop-at-test.false) ∙ w.1)
