-- `studio_figure_bytes::put_figure` meets its contract: two headers, the materials, then the objects.
use mathlib.Core.Path.{◌≡◌, sym, subst}
use Prim.Native.Nat.{ℕ, ◌+◌, ◌-◌, ◌*◌, ◌/◌, ◌<◌}
use native.Mathlib.Omega.{arith}
use mathlib.Core.List.{List}
use lib.ListN.{length}
use Rattle.shared_numbers.specs.Put.{Put}
use Rattle.shared_numbers.proofs.Put.{put_then}
use Rattle.studio_figure_rules.specs.Described.{Flat}
use Rattle.studio_figure_rows.specs.Given.{given}
use Rattle.studio_figure_rows.specs.Rows.{sum_to, Capped, materials_from, groups_from}
use Rattle.studio_figure_rows.proofs.Runs.{capped-under}
use Rattle.studio_figure_bytes.specs.Objects.{WritableIn}
use Rattle.studio_figure_bytes.proofs.Steps.{materials_length}
use Rattle.studio_figure_bytes.proofs.Figure.{Told, told, joined}
use Rattle.studio_figure_bytes.proofs.put_figure.Goals as goal

-- where the names of the materials begin, and those of the groups
record Begins (r : Flat) (first second : ℕ) : Type 0 where
  materials : first ≡ materials_from r
  groups : first + second ≡ groups_from r

begins : (r : Flat) (room size first second : ℕ) → Told r room size → length r.names < 9223372036854775808 →
    Capped (sum_to 5 0 r.objects 0) (sum_to 5 0 r.objects (length r.objects / 5)) 9223372036854775807 first →
    Capped (sum_to 1 0 r.materials 0) (sum_to 1 0 r.materials (length r.materials)) 9223372036854775807 second → Begins r first second
begins r room size first second k n a b =
    let l = k.fit.names in
    let x = capped-under _ _ _ _ a (omega arith) in
    let y = capped-under _ _ _ _ b (omega arith) in
    record { materials = omega arith; groups = omega arith }

pub overflow_add-from : goal.overflow_add-from
overflow_add-from c =
    let k = told (given c.args.rows.now) (length c.args.out.now) c.args.size c.args.rows.now.floats c.requires in
    let b = begins (given c.args.rows.now) (length c.args.out.now) c.args.size _ _ k c.args.rows.now.lengths.0 c.sum-first.ensures c.sum.ensures in
    omega (arith, b.groups, k.fit.names)

pub put_header-scene-requires : goal.put_header-scene-requires
put_header-scene-requires c =
    let k = told (given c.args.rows.now) (length c.args.out.now) c.args.size c.args.rows.now.floats c.requires in
    (omega (arith, k.small), omega (arith, k.enough, k.size_is))

pub overflow_sub-size : goal.overflow_sub-size
overflow_sub-size c =
    let k = told (given c.args.rows.now) (length c.args.out.now) c.args.size c.args.rows.now.floats c.requires in
    omega (arith, k.size_is, c.put_header-scene.ensures.ends)

pub put_header-inside-requires : goal.put_header-inside-requires
put_header-inside-requires c =
    let k = told (given c.args.rows.now) (length c.args.out.now) c.args.size c.args.rows.now.floats c.requires in
    (omega (arith, k.small), omega (arith, k.enough, k.size_is, c.put_header-scene.ensures.ends))

pub put_materials-next-requires : goal.put_materials-next-requires
put_materials-next-requires c =
    let k = told (given c.args.rows.now) (length c.args.out.now) c.args.size c.args.rows.now.floats c.requires in
    let b = begins (given c.args.rows.now) (length c.args.out.now) c.args.size _ _ k c.args.rows.now.lengths.0 c.sum-first.ensures c.sum.ensures in
    let n = k.fit.names in
    let colours = k.fit.colours in
    record {
      materials_in_bounds = (omega (arith, b.materials), omega arith);
      materials_bound = (omega (arith, k.size_is, k.small), omega (arith, k.size_is, k.enough, c.put_header-scene.ensures.ends, c.put_header-inside.ensures.ends));
    }

pub put_objects-requires : goal.put_objects-requires
put_objects-requires c =
    let k = told (given c.args.rows.now) (length c.args.out.now) c.args.size c.args.rows.now.floats c.requires in
    let b = begins (given c.args.rows.now) (length c.args.out.now) c.args.size _ _ k c.args.rows.now.lengths.0 c.sum-first.ensures c.sum.ensures in
    let r = c.args.rows.now in
    let l = materials_length r.names.now r.materials.now r.colours.now c.sum-first.result (length r.materials.now) (omega (arith, b.materials, k.fit.names)) in
    let materials-end : c.put_materials-next.result ≡ 12 + (58 * length r.materials.now + sum_to 1 0 r.materials.now (length r.materials.now)) =
    omega (arith, l, c.put_materials-next.ensures.ends, c.put_header-scene.ensures.ends, c.put_header-inside.ensures.ends) in
    record {
      by_index = (
        (λ i h. subst (λ (f : ℕ). WritableIn c.args.rows.now f i) (sym b.groups) (k.writable i h)),
        omega (arith, b.groups, k.fit.names, c.args.rows.now.lengths.0),
      );
      n_in_bounds = omega (arith, materials-end, k.size_is, k.enough);
    }

pub returns : goal.returns
returns c =
    let k = told (given c.args.rows.now) (length c.args.out.now) c.args.size c.args.rows.now.floats c.requires in
    let b = begins (given c.args.rows.now) (length c.args.out.now) c.args.size _ _ k c.args.rows.now.lengths.0 c.sum-first.ensures c.sum.ensures in
    let r = c.args.rows.now in
    let l = materials_length r.names.now r.materials.now r.colours.now c.sum-first.result (length r.materials.now) (omega (arith, b.materials, k.fit.names)) in
    let materials-end : c.put_materials-next.result ≡ 12 + (58 * length r.materials.now + sum_to 1 0 r.materials.now (length r.materials.now)) =
    omega (arith, l, c.put_materials-next.ensures.ends, c.put_header-scene.ensures.ends, c.put_header-inside.ensures.ends) in
    let p = c.put_objects in
    subst (λ (new : List ℕ). Put c.args.out.now 0 new p.new.out p.result)
    (joined (given c.args.rows.now) (length c.args.out.now) c.args.size k c.sum-first.result (c.sum-first.result + c.sum.result) (c.args.size - c.put_header-scene.result) b.materials b.groups (omega (arith, k.size_is, c.put_header-scene.ensures.ends)))
    (put_then (omega arith) c.put_header-scene.ensures
    (put_then (omega (arith, k.size_is, k.enough, c.put_header-scene.ensures.ends)) c.put_header-inside.ensures
    (put_then (omega (arith, k.size_is, k.enough, c.put_header-scene.ensures.ends, c.put_header-inside.ensures.ends)) c.put_materials-next.ensures p.ensures)))
