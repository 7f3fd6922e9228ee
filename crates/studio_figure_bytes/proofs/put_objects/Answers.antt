use mathlib.Core.Path.{◌≡◌, refl}
use Prim.Native.Nat.{ℕ}
use native.Mathlib.Omega.{arith}
use Rattle.shared_numbers.proofs.Put.{put-none, put_then}
use Rattle.studio_figure_objects.specs.Sizes.{object_bytes}
use Rattle.studio_figure_chunks.proofs.Chunks.{over_last}
use Rattle.studio_figure_bytes.specs.Objects.{pieces}
use Rattle.studio_figure_bytes.proofs.Steps.{at_first, at_next, place_small, pieces-length, total-next, total_inside}
use Rattle.studio_figure_bytes.proofs.put_objects.Goals as goal

pub loop-i-init : goal.loop-i-init
loop-i-init c = (refl, at_first _ _ _, omega arith, put-none _ _)

pub next_place-q-requires : goal.next_place-q-requires
next_place-q-requires c =
    let r = c.args.rows.now in
    let n = r.lengths in
    let both = place_small r.names.now r.objects.now r.vertices.now r.corners.now r.smoothing.now r.groups.now r.faces.now c.args.from c.loop-i.i c.loop-i.p c.loop-i.invariant.1
    (c.requires.by_index.0 c.loop-i.i (omega arith)) n.0 n.1 n.2 n.3 n.4 in
    record { i_in_bounds = both.0; i_bound = both.1.0; i_bound_2 = both.1.1.0; i_bound_3 = both.1.1.1.0; label_bound = both.1.1.1.1 }

pub put_object-next-requires : goal.put_object-next-requires
put_object-next-requires c =
    record {
      at = (c.loop-i.invariant.1, c.next_place-q.ensures, c.requires.by_index.0 c.loop-i.i (omega arith));
      i_in_bounds =
          omega (arith, c.loop-i.invariant.2, c.requires.n_in_bounds, total_inside (object_bytes c.args.rows.now.objects.now c.args.rows.now.groups.now) c.loop-i.i c.args.n (omega arith));
    }

pub loop-i-preserved : goal.loop-i-preserved
loop-i-preserved c =
    let w = c.requires.by_index.0 c.loop-i.i (omega arith) in
    let l = pieces-length c.args.rows.now.names.now c.args.rows.now.objects.now c.args.rows.now.vertices.now c.args.rows.now.corners.now c.args.rows.now.smoothing.now c.args.rows.now.groups.now c.args.rows.now.faces.now c.args.from c.loop-i.i w in (
      omega arith,
      at_next c.args.rows.now.objects.now c.args.rows.now.groups.now c.args.from c.loop-i.i c.loop-i.p c.next_place-q.result c.loop-i.invariant.1 c.next_place-q.ensures,
      omega (arith, c.loop-i.invariant.2, c.put_object-next.ensures.ends, l, total-next (object_bytes c.args.rows.now.objects.now c.args.rows.now.groups.now) c.loop-i.i),
      rw (over_last (pieces c.args.rows.now.names.now c.args.rows.now.objects.now c.args.rows.now.vertices.now c.args.rows.now.corners.now c.args.rows.now.smoothing.now c.args.rows.now.groups.now c.args.rows.now.faces.now c.args.from) (λ (k : ℕ). k) c.loop-i.i)
          (put_then (omega (arith, c.requires.n_in_bounds)) c.loop-i.invariant.3 c.put_object-next.ensures),
    )

pub shape_of-out : goal.shape_of-out
shape_of-out c = c.loop-i.invariant.0

pub returns : goal.returns
returns c =
    let e : c.loop-i.i ≡ c.args.n = omega arith in
    rw e at c.loop-i.invariant.3
