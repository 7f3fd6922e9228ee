-- What the meshes of joined runs hold, wherever they stand.
use mathlib.Core.Path.{◌≡◌, refl, ap, ◌∙◌}
use Prim.Native.Nat.{ℕ, ◌+◌, ◌-◌}
use native.Mathlib.Omega.{arith}
use mathlib.Core.Bool.{Bool, true, false}
use mathlib.Core.List.{List, [], ◌++◌, map, append-nil, map-append}
use lib.Dec.{eqb}
use lib.ListN.{length}
use Rattle.studio_rules.specs.Layout.{Run, end, skip, known, size, ◌then◌}
use Rattle.studio_rules.specs.Gives.{Mesh, mesh_of, one_mesh, meshes_of, meshes}
use Rattle.studio_scene.specs.Scene.{holding}
use Rattle.studio_scene.specs.Contents.{unplaced, contents}
use Rattle.studio_rules.proofs.Then.{meshes_then}

map-three : (xs ys zs : List Mesh) → map unplaced (xs ++ (ys ++ zs)) ≡ map unplaced xs ++ (map unplaced ys ++ map unplaced zs)
map-three xs ys zs = map-append unplaced xs (ys ++ zs) ∙ rw (map-append unplaced ys zs)

one_same : (e : Bool) (at at' l : ℕ) (kids : Run) → map unplaced (one_mesh e (mesh_of at l kids)) ≡ map unplaced (one_mesh e (mesh_of at' l kids))
one_same true at at' l kids = refl
one_same false at at' l kids = refl

contents-same : (o o' at at' l : ℕ) (t : Run) → map unplaced (meshes_of o at l t) ≡ map unplaced (meshes_of o' at' l t)
contents-same o o' at at' l end = refl
contents-same o o' at at' l (skip id body rest) = contents-same (o + (6 + length body)) (o' + (6 + length body)) at at' l rest
contents-same o o' at at' l (known id own kids rest) =
    let k = contents-same (o + (6 + length own)) (o' + (6 + length own)) (o + 6) (o' + 6) (length own - 1) kids in
    let r = contents-same (o + (6 + length own + size kids)) (o' + (6 + length own + size kids)) at at' l rest in
    simp map-three (rw (one_same (eqb id 0x4100) at at' l kids, k, r))

pub contents_then : (a t : Run) → contents (a then t) ≡ contents a ++ contents t
contents_then a t =
    ap (map unplaced) (meshes_then 0 (size a) 0 0 a t (omega arith)) ∙ map-append unplaced (meshes_of 0 0 0 a) (meshes_of (size a) 0 0 t) ∙
    ap (λ (x : List Mesh). contents a ++ x) (contents-same (size a) 0 0 0 0 t)

pub contents-holding : (before t after : Run) → map unplaced (meshes (holding before t after)) ≡ contents before ++ (contents t ++ contents after)
contents-holding before t after =
    let k : Run = known 0x3D3D [] t after in
    let o : ℕ = 0 + (6 + 0 + size t) in
    ap (map unplaced) (append-nil (meshes_of 6 6 0 (before then k))) ∙ contents-same 6 0 6 0 0 (before then k) ∙ contents_then before k ∙
    ap (λ (x : List Mesh). contents before ++ x)
    (map-append unplaced (meshes_of 6 6 0 t) (meshes_of o 0 0 after) ∙ rw (contents-same 6 0 6 0 0 t, contents-same o 0 0 0 0 after))
