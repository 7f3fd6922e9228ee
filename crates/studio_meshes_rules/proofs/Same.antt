-- The meshes where they stand are the meshes.
use mathlib.Core.Path.{◌≡◌, refl}
use mathlib.Core.Bool.{Bool, true, false}
use mathlib.Core.List.{List, ◌++◌, map, map-append}
use Prim.Native.Nat.{ℕ, ◌+◌, ◌-◌}
use lib.Dec.{eqb}
use lib.ListN.{length}
use Rattle.studio_rules.specs.Layout.{Run, end, skip, known, figure, size}
use Rattle.studio_rules.specs.Gives.{one_mesh, meshes_of}
use Rattle.studio_meshes_rules.specs.Standing.{Standing, mesh_in, one_standing, standing_of}
use Rattle.studio_meshes_rules.specs.Theorems.{SameMeshes}

one_same : (b : Bool) (m : Standing) → one_mesh b (mesh_in m) ≡ map mesh_in (one_standing b m)
one_same true m = refl
one_same false m = refl

pub run-same : (o a n : ℕ) (t : Run) → meshes_of o a n t ≡ map mesh_in (standing_of o a n t)
run-same o a n end = refl
run-same o a n (skip id body rest) = run-same (o + (6 + length body)) a n rest
run-same o a n (known id own kids rest) =
    let one : Standing = record { name_at = a; name_length = n; at = o + (6 + length own); kids = kids } in
    let below : List Standing = standing_of (o + (6 + length own)) (o + 6) (length own - 1) kids in
    let behind : List Standing = standing_of (o + (6 + length own + size kids)) a n rest in
    rw (
      one_same (eqb id 0x4100) one,
      run-same (o + (6 + length own)) (o + 6) (length own - 1) kids,
      run-same (o + (6 + length own + size kids)) a n rest,
      map-append mesh_in (one_standing (eqb id 0x4100) one) (below ++ behind),
      map-append mesh_in below behind,
    )

pub same-meshes : SameMeshes
same-meshes kids = run-same 0 0 0 (figure kids)
