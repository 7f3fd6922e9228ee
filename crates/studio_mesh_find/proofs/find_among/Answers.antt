use mathlib.Core.Path.{refl, sym, ap, ◌∙◌}
use mathlib.Core.List.{[]}
use lib.ListN.{length-append}
use native.Mathlib.Omega.{arith}
use Rattle.shared_words.specs.declared.Refusal.TheVariants.{NoSuchMesh}
use Rattle.studio_meshes_rules.proofs.Few.{as_many}
use Rattle.studio_mesh_find.proofs.Parts.{all_listed}
use Rattle.studio_mesh_find.proofs.Meshes.{none_before, all-before, nth_beyond}
use Rattle.studio_mesh_find.proofs.Objects.{object-begins, next-on, rest-here, without-mesh, with-mesh, begins-here, mesh-found}
use Rattle.studio_mesh_find.proofs.find_among.Goals as goal
use Rattle.studio_mesh_find.proofs.find_among.Goals.{then-object+else-before-mesh, else-object}

pub next_child-at-requires : goal.next_child-at-requires
next_child-at-requires c =
    let x = c in
    let g = x.requires in
    (all_listed.1, (g.0, g.1, g.3))

pub loop-at-init : goal.loop-at-init
loop-at-init c =
    let x = c in
    (omega arith, λ p t a n i h. ([], refl, rw (c.next_child-at.ensures p t h) (none_before p i t x.args.file.now x.args.objects.from x.args.objects.stop a n h)))

pub object_at-object-requires : goal.object_at-object-requires
object_at-object-requires c =
    let x = c in
    let g = x.requires in
    let l = c.loop-at in
    let w = l.invariant.1 g.0 g.1 0 0 g.2 g.3 in
    object-begins g.0 g.2 g.1 x.args.file.now x.args.objects.from x.args.objects.stop 0 0 w.0 l.at w.2 c.loop-at-test.true

pub overflow_add-at : goal.overflow_add-at
overflow_add-at c =
    let x = c in
    let g = x.requires in
    omega (arith, c.loop-at-test.true, g.3.stands.stays, g.3.stands.small)

pub place_of-requires : goal.place_of-requires
place_of-requires c =
    let x = c in
    let g = x.requires in
    let l = c.loop-at in
    let w = l.invariant.1 g.0 g.1 0 0 g.2 g.3 in
    begins-here g.0 g.2 g.1 x.args.file.now x.args.objects.from x.args.objects.stop 0 0 w.0 l.at w.2 c.loop-at-test.true c.object_at-object.result c.object_at-object.ensures c.if-object.true

pub returns-then-before-mesh : goal.returns-then-before-mesh
returns-then-before-mesh c =
    let x = c in
    let l = c.loop-at in
    let o = c.object_at-object in
    λ p t a n i h.
    let w = l.invariant.1 p t a n i h in
    mesh-found p i t x.args.file.now x.args.objects.from x.args.objects.stop a n w.0 l.at w.2 c.loop-at-test.true
    o.result o.ensures c.if-object.true c.place_of.result c.place_of.ensures.is x.args.mesh (w.1 ∙ c.if-before-mesh.true)

pub next_child-at-requires-in-loop-at : goal.next_child-at-requires-in-loop-at
next_child-at-requires-in-loop-at c =
    let x = c in
    let g = x.requires in
    let l = c.loop-at in
    let w = l.invariant.1 g.0 g.1 0 0 g.2 g.3 in
    (all_listed.1, (g.0, _, rest-here g.0 g.2 g.1 x.args.file.now x.args.objects.from x.args.objects.stop 0 0 w.0 l.at w.2 c.loop-at-test.true c.object_at-object.result c.object_at-object.ensures))

pub loop-at-smaller : goal.loop-at-smaller
loop-at-smaller c =
    let x = c in
    let g = x.requires in
    let l = c.loop-at in
    let w = l.invariant.1 g.0 g.1 0 0 g.2 g.3 in
    let t = c.loop-at-test.true in
    let o = c.object_at-object in
    let r = rest-here g.0 g.2 g.1 x.args.file.now x.args.objects.from x.args.objects.stop 0 0 w.0 l.at w.2 t o.result o.ensures in
    omega (arith, next-on g.0 g.2 g.1 x.args.file.now x.args.objects.from x.args.objects.stop 0 0 w.0 l.at w.2 t o.result o.ensures c.next_child-at-in-loop-at.result (c.next_child-at-in-loop-at.ensures _ _ r))

pub loop-at-preserved : goal.loop-at-preserved
loop-at-preserved c =
    let x = c in
    let l = c.loop-at in
    let y = c.loop-at-test.true in
    let o = c.object_at-object in (
      elim c.if-object.branch [ then-object+else-before-mesh v ↦ omega arith | else-object v ↦ omega arith ],
      λ p t a n i h.
          let w = l.invariant.1 p t a n i h in
          let r = rest-here p i t x.args.file.now x.args.objects.from x.args.objects.stop a n w.0 l.at w.2 y o.result o.ensures in
          let q = c.next_child-at-in-loop-at.ensures _ _ r in
          elim c.if-object.branch [
            | then-object+else-before-mesh v ↦ (_, rw v.before-is (length-append w.0 _ ∙ omega (arith, w.1)), with-mesh p i t x.args.file.now x.args.objects.from x.args.objects.stop a n w.0 l.at w.2 y o.result o.ensures _ q v.if-object.true)
            | else-object v ↦ (w.0, rw v.before-is w.1, without-mesh p i t x.args.file.now x.args.objects.from x.args.objects.stop a n w.0 l.at w.2 y o.result o.ensures _ q v.if-object.false)
          ],
    )

pub returns : goal.returns
returns c =
    let x = c in
    let l = c.loop-at in
    λ p t a n i h.
    let w = l.invariant.1 p t a n i h in
    let e = all-before p i t x.args.file.now x.args.objects.from x.args.objects.stop a n w.0 l.at w.2 (omega arith) in
    (rw e (nth_beyond w.0 x.args.mesh (omega (arith, w.1, l.invariant.0))), rw e (ap NoSuchMesh (sym (as_many w.0 ∙ w.1))))
