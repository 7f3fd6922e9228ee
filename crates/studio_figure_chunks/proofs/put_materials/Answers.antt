use mathlib.Core.Path.{◌≡◌, refl, subst}
use Prim.Native.Nat.{ℕ, ◌+◌, ◌-◌}
use native.Mathlib.Omega.{arith}
use mathlib.Core.List.{List}
use lib.ListN.{length}
use Rattle.shared_numbers.specs.Put.{Put}
use Rattle.shared_numbers.proofs.Put.{put-none, put_then}
use Rattle.studio_figure_rows.specs.Rows.{entry, sum_to}
use Rattle.studio_figure_rows.proofs.Runs.{sum-next, sum_inside, part-is, part_length}
use Rattle.studio_figure_chunks.specs.Chunks.{material_bytes, material_with, material_in}
use Rattle.studio_figure_chunks.proofs.Chunks.{over_last, material-length}
use Rattle.studio_figure_chunks.proofs.put_materials.Goals as goal

pub loop-i-init : goal.loop-i-init
loop-i-init c = (refl, omega arith, omega arith, put-none _ _)

pub number-requires : goal.number-requires
number-requires c = (omega arith, omega arith)

pub overflow_add-end : goal.overflow_add-end
overflow_add-end c =
    omega (arith, c.loop-i.invariant.1, c.number.ensures.0, sum_inside 1 0 c.args.materials.now c.loop-i.i (length c.args.materials.now) (omega arith))

pub slice_bounds-put_material-end : goal.slice_bounds-put_material-end
slice_bounds-put_material-end c =
    omega (arith, c.loop-i.invariant.1, c.number.ensures.0, sum_inside 1 0 c.args.materials.now c.loop-i.i (length c.args.materials.now) (omega arith))

pub put_material-next-requires : goal.put_material-next-requires
put_material-next-requires c =
    let a = c.args in
    let l = c.loop-i in
    let s = sum_inside 1 0 a.materials.now l.i (length a.materials.now) (omega arith) in
    let k = part_length l.label (l.label + c.number.result - l.label) a.names.now (omega (arith, l.invariant.1, c.number.ensures.0)) in
    (omega arith, omega (arith, c.number.ensures.0), omega (arith, l.invariant.2, c.number.ensures.0))

pub loop-i-preserved : goal.loop-i-preserved
loop-i-preserved c =
    let a = c.args in
    let l = c.loop-i in
    let s = sum_inside 1 0 a.materials.now l.i (length a.materials.now) (omega arith) in
    let e = part-is a.names.now l.label c.number.result _ _ l.invariant.1 c.number.ensures.0 in
    let p = c.put_material-next in
    let put = subst (λ (name : List ℕ). Put l.out l.next (material_bytes (material_with name a.colours.now l.i)) p.new.out p.result) e p.ensures in
    let k = part_length (a.first + sum_to 1 0 a.materials.now l.i) (entry 1 0 a.materials.now l.i) a.names.now (omega arith) in
    let m = material-length (material_in a.names.now a.materials.now a.colours.now a.first l.i) in (
      omega arith,
      omega (arith, l.invariant.1, c.number.ensures.0, sum-next 1 0 a.materials.now l.i),
      omega (arith, l.invariant.2, put.ends, sum-next 1 0 a.materials.now l.i),
      rw (over_last material_bytes (material_in a.names.now a.materials.now a.colours.now a.first) l.i) (put_then (omega arith) l.invariant.3 put),
    )

pub shape_of-out : goal.shape_of-out
shape_of-out c = c.loop-i.invariant.0

pub returns : goal.returns
returns c =
    let a = c.args in
    let l = c.loop-i in
    let e : l.i ≡ length a.materials.now = omega arith in
    rw e at l.invariant.3
