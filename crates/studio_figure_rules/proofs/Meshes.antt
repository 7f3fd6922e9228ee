-- The meshes of a figure's layout are the objects given, and their names stand where the reader says.
use mathlib.Core.Path.{◌≡◌, refl, ap, ◌∙◌, sym}
use Prim.Native.Nat.{ℕ, ◌+◌, ◌-◌}
use native.Mathlib.Omega.{arith}
use mathlib.Core.List.{List, [], ◌∷◌, ◌++◌, map, append_assoc, append-nil}
use lib.ListN.{length, take, drop}
use lib.Seq.{take_at}
use Rattle.shared_words.specs.Lists.{All, total}
use Rattle.studio_rules.specs.Layout.{Run, end, known, size, bytes, figure}
use Rattle.studio_rules.specs.Gives.{Mesh, mesh_of, meshes_of, meshes}
use Rattle.studio_write_bytes.specs.Bare.{name_data, face_data}
use Rattle.studio_figure_rules.specs.Given.{Group, Object, Material, Figure}
use Rattle.studio_figure_rules.specs.Built.{vertex_list, each, group_data, group_chunk, smoothing_chunk, mesh_children, object_chunk, material_children, material_chunk, scene, layout}
use Rattle.studio_figure_rules.specs.Judged.{object_size, material_size}
use Rattle.studio_figure_rules.specs.ReadsBack.{mesh_given, meshes_given, first_object, name_in}
use Rattle.studio_figure_rules.proofs.Ready.{ObjectReady}
use Rattle.studio_figure_rules.proofs.OwnData.{vertex-count, face-count, vertex-numbers, face-corners, length-name_data}
use Rattle.studio_figure_rules.proofs.Stands.{Stands, own_stands, rest-stands, kids_stand}
use Rattle.studio_figure_rules.proofs.Sizes.{object-size, material-size}

-- ---- no mesh in a material, and none in a face list

smoothing_none : (at n l : ℕ) (words : List ℕ) → meshes_of at n l (smoothing_chunk words) ≡ []
smoothing_none at n l [] = refl
smoothing_none at n l (w ∷ ws) = refl

groups_none : (gs : List Group) (at n l : ℕ) (words : List ℕ) → meshes_of at n l (each group_chunk gs (smoothing_chunk words)) ≡ []
groups_none [] at n l words = smoothing_none at n l words
groups_none (g ∷ gs) at n l words = groups_none gs (at + (6 + length (group_data g) + size end)) n l words

materials_none : (at n l : ℕ) (ms : List Material) (rest : Run) → meshes_of at n l (each material_chunk ms rest) ≡ meshes_of (at + total material_size ms) n l rest
materials_none at n l [] rest = ap (λ (k : ℕ). meshes_of k n l rest) (omega arith)
materials_none at n l (m ∷ ms) rest =
    let z : 6 + 0 + size (material_children m) ≡ material_size m = omega (arith, material-size m end) in
    let a : at + material_size m + total material_size ms ≡ at + (material_size m + total material_size ms) = omega arith in
    ap (λ (k : ℕ). meshes_of (at + k) n l (each material_chunk ms rest)) z ∙ materials_none (at + material_size m) n l ms rest ∙
    ap (λ (k : ℕ). meshes_of k n l rest) a

-- ---- one mesh in an object

mesh-is : (at : ℕ) (o : Object) → ObjectReady o → mesh_of at (length (name_data o.name) - 1) (mesh_children o) ≡ mesh_given at o
mesh-is at o r =
    let n : length (name_data o.name) - 1 ≡ length o.name = omega (arith, length-name_data o.name) in
    rw (n, vertex-numbers o r, face-corners o r, vertex-count o r, face-count o r)

object-is : (o : Object) → ObjectReady o → 6 + length (name_data o.name) + size (known 0x4100 [] (mesh_children o) end) ≡ object_size o
object-is o r = omega (arith, object-size o r end)

object-mesh : (at n l : ℕ) (o : Object) (rest : Run) → ObjectReady o → meshes_of at n l (object_chunk o rest) ≡ mesh_given (at + 6) o ∷ meshes_of (at + object_size o) n l rest
object-mesh at n l o rest r =
    let mesh-at : ℕ = at + (6 + length (name_data o.name)) in
    let faces-at : ℕ = mesh-at + (6 + 0) + (6 + length (vertex_list o.vertices) + 0) in
    let none = groups_none o.groups (faces-at + (6 + length (face_data o.corners))) (faces-at + 6) (length (face_data o.corners) - 1) o.smoothing in
    rw (object-is o r, none) (ap (λ (m : Mesh). m ∷ meshes_of (at + object_size o) n l rest) (mesh-is (at + 6) o r))

objects-meshes : (at n l : ℕ) (os : List Object) → All ObjectReady os → meshes_of at n l (each object_chunk os end) ≡ meshes_given at os
objects-meshes at n l [] a = refl
objects-meshes at n l (o ∷ os) a =
    object-mesh at n l o (each object_chunk os end) a.0 ∙ ap (λ (ms : List Mesh). mesh_given (at + 6) o ∷ ms) (objects-meshes (at + object_size o) n l os a.1)

pub meshes-given : (f : Figure) → All ObjectReady f.objects → meshes (layout f) ≡ meshes_given (first_object f) f.objects
meshes-given f r =
    let inside = meshes_of 12 12 0 (scene f) in
    rw (append-nil inside, append-nil inside)
    (materials_none 12 12 0 f.materials (each object_chunk f.objects end) ∙ objects-meshes (first_object f) 12 0 f.objects r)

-- ---- names

pub names_stand : (s : List ℕ) (at : ℕ) (os : List Object) (more : List ℕ) → All ObjectReady os → Stands s at (each object_chunk os end) more →
    map (name_in s) (meshes_given at os) ≡ map (λ (o : Object). o.name) os
names_stand s at [] more a h = refl
names_stand s at (o ∷ os) more a h =
    let mesh : Run = known 0x4100 [] (mesh_children o) end in
    let rest : Run = each object_chunk os end in
    let here = own_stands s at 0x4000 (name_data o.name) mesh rest more h in
    let name : name_in s (mesh_given (at + 6) o) ≡ o.name =
    ap (take (length o.name)) (here ∙ append_assoc o.name (0 ∷ []) (bytes mesh ++ (bytes rest ++ more))) ∙
    take_at o.name (0 ∷ (bytes mesh ++ (bytes rest ++ more))) (length o.name) refl in
    let there = rw (object-is o a.0) at (rest-stands s at 0x4000 (name_data o.name) mesh rest more h) in
    rw (name, names_stand s (at + object_size o) os more a.1 there)

-- where the objects stand in their own file
behind_materials : (s : List ℕ) (at : ℕ) (ms : List Material) (rest : Run) (more : List ℕ) → Stands s at (each material_chunk ms rest) more →
    Stands s (at + total material_size ms) rest more
behind_materials s at [] rest more h = let z : at + 0 ≡ at = omega arith in rw z h
behind_materials s at (m ∷ ms) rest more h =
    let z : 6 + 0 + size (material_children m) ≡ material_size m = omega (arith, material-size m end) in
    let n : at + (material_size m + total material_size ms) ≡ at + material_size m + total material_size ms = omega arith in
    let next = rw z at (rest-stands s at 0xAFFF [] (material_children m) (each material_chunk ms rest) more h) in
    ap (λ (k : ℕ). drop k s) n ∙ behind_materials s (at + material_size m) ms rest more next

pub objects_stand : (f : Figure) → Stands (bytes (figure (layout f))) (first_object f) (each object_chunk f.objects end) []
objects_stand f =
    let s = bytes (figure (layout f)) in
    let whole = sym (append-nil s) in
    behind_materials s 12 f.materials (each object_chunk f.objects end) []
    (kids_stand s 6 0x3D3D [] (scene f) end [] (kids_stand s 0 0x4D4D [] (layout f) end [] whole))
