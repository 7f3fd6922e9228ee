-- A figure as bytes, in the order in which it is written: two headers, the materials, the objects. (What a loop over the
-- materials and one over the objects put, each by one kind of chunk.)
use mathlib.Core.Path.{◌≡◌, refl, sym, ap, ◌∙◌}
use Prim.Native.Nat.{ℕ, ◌+◌}
use native.Mathlib.Omega.{arith}
use mathlib.Core.List.{List, [], ◌∷◌, ◌++◌, append_assoc, append-nil}
use lib.ListN.{length}
use Rattle.shared_words.specs.Lists.{All}
use Rattle.studio_rules.specs.Layout.{Run, end, known, figure, size, header, bytes}
use Rattle.studio_rules.proofs.Sound.{length-bytes}
use Rattle.studio_write_bytes.specs.Bare.{name_data}
use Rattle.studio_figure_rules.specs.Given.{Object, Material, Figure, over}
use Rattle.studio_figure_rules.specs.Built.{each, mesh_children, object_chunk, material_children, material_chunk, scene, layout}
use Rattle.studio_figure_rules.specs.Judged.{size_of}
use Rattle.studio_figure_rules.proofs.Lists.{all_of}
use Rattle.studio_figure_rules.proofs.Ready.{ObjectReady}
use Rattle.studio_figure_rules.proofs.Sizes.{figure-size}

-- a chunk, and the rest of its run
pub chunk_bytes : (id : ℕ) (own : List ℕ) (kids rest : Run) → bytes (known id own kids rest) ≡ bytes (known id own kids end) ++ bytes rest
chunk_bytes id own kids rest =
    let h = header id (6 + length own + size kids) in
    sym (
    append_assoc h (own ++ (bytes kids ++ [])) (bytes rest) ∙
    ap (λ (l : List ℕ). h ++ l) (append_assoc own (bytes kids ++ []) (bytes rest) ∙ ap (λ (l : List ℕ). own ++ (l ++ bytes rest)) (append-nil (bytes kids)))
    )

pub each-bytes : {A : Type 0} (chunk : A → Run → Run) (xs : List A) (rest : Run) → All (λ x. (more : Run) → bytes (chunk x more) ≡ bytes (chunk x end) ++ bytes more) xs →
    bytes (each chunk xs rest) ≡ over (λ x. bytes (chunk x end)) xs ++ bytes rest
each-bytes chunk [] rest a = refl
each-bytes chunk (x ∷ xs) rest a =
    a.0 (each chunk xs rest) ∙ ap (λ (l : List ℕ). bytes (chunk x end) ++ l) (each-bytes chunk xs rest a.1) ∙
    sym (append_assoc (bytes (chunk x end)) (over (λ y. bytes (chunk y end)) xs) (bytes rest))

abbrev material_bytes : Material → List ℕ
material_bytes m = bytes (material_chunk m end)

abbrev object_bytes : Object → List ℕ
object_bytes o = bytes (object_chunk o end)

scene-bytes : (f : Figure) → bytes (scene f) ≡ over material_bytes f.materials ++ over object_bytes f.objects
scene-bytes f =
    let objects =
    each-bytes object_chunk f.objects end (all_of (λ o more. chunk_bytes 0x4000 (name_data o.name) (known 0x4100 [] (mesh_children o) end) more) f.objects) ∙
    append-nil (over object_bytes f.objects) in
    each-bytes material_chunk f.materials (each object_chunk f.objects end) (all_of (λ m more. chunk_bytes 0xAFFF [] (material_children m) more) f.materials) ∙
    ap (λ (l : List ℕ). over material_bytes f.materials ++ l) objects

pub in_order : (f : Figure) (inner : ℕ) → All ObjectReady f.objects → size_of f ≡ 6 + inner →
    bytes (figure (layout f)) ≡ header 0x4D4D (size_of f) ++ (header 0x3D3D inner ++ (over material_bytes f.materials ++ over object_bytes f.objects))
in_order f inner r e =
    let n : 6 + 0 + (6 + 0 + size (scene f) + 0) ≡ size_of f = omega (arith, length-bytes (figure (layout f)), figure-size f r) in
    let m : 6 + 0 + size (scene f) ≡ inner = omega arith in
    rw (n, m, append-nil (bytes (scene f)), append-nil (bytes (scene f)), scene-bytes f)
