-- The size of a figure's layout is the size that is judged.
use mathlib.Core.Path.{◌≡◌, refl, ◌∙◌}
use Prim.Native.Nat.{ℕ, ◌+◌}
use native.Mathlib.Omega.{arith}
use mathlib.Core.List.{List, [], ◌∷◌}
use lib.ListN.{length}
use Rattle.shared_words.specs.Lists.{All, total}
use Rattle.studio_rules.specs.Layout.{Run, end, figure, size, bytes}
use Rattle.shared_words.proofs.Bytes.{length-packed}
use Rattle.studio_rules.proofs.Sound.{length-bytes}
use Rattle.studio_write_bytes.proofs.Bare.{length-face_data}
use Rattle.studio_figure_rules.specs.Given.{Group, Object, Material, Figure}
use Rattle.studio_figure_rules.specs.Built.{each, group_chunk, smoothing_chunk, object_chunk, material_chunk, layout}
use Rattle.studio_figure_rules.specs.Judged.{group_size, smoothing_size, object_size, material_size, size_of}
use Rattle.studio_figure_rules.proofs.Lists.{all_of, all_map}
use Rattle.studio_figure_rules.proofs.Ready.{ObjectReady}
use Rattle.studio_figure_rules.proofs.OwnData.{length-name_data, length-vertices, length-group}

-- chunks one after another
size-each : {A : Type 0} (chunk : A → Run → Run) (of : A → ℕ) (xs : List A) (rest : Run) → All (λ x. (more : Run) → size (chunk x more) ≡ of x + size more) xs →
    size (each chunk xs rest) ≡ total of xs + size rest
size-each chunk of [] rest a = omega arith
size-each chunk of (x ∷ xs) rest a = a.0 (each chunk xs rest) ∙ omega (arith, size-each chunk of xs rest a.1)

groups_size : (gs : List Group) (rest : Run) → size (each group_chunk gs rest) ≡ total group_size gs + size rest
groups_size gs rest = size-each group_chunk group_size gs rest (all_of (λ g more. omega (arith, length-group g)) gs)

smoothing_size_lem : (words : List ℕ) → size (smoothing_chunk words) ≡ smoothing_size words
smoothing_size_lem [] = refl
smoothing_size_lem (w ∷ ws) = omega (arith, length-packed 4 (w ∷ ws))

pub object-size : (o : Object) → ObjectReady o → (rest : Run) → size (object_chunk o rest) ≡ object_size o + size rest
object-size o r rest =
    omega (
      arith,
      length-name_data o.name,
      length-vertices o r,
      length-face_data o.corners,
      groups_size o.groups (smoothing_chunk o.smoothing),
      smoothing_size_lem o.smoothing,
    )

pub material-size : (m : Material) (rest : Run) → size (material_chunk m rest) ≡ material_size m + size rest
material-size m rest = omega (arith, length-name_data m.name)

pub figure-size : (f : Figure) → All ObjectReady f.objects → length (bytes (figure (layout f))) ≡ size_of f
figure-size f r =
    length-bytes (figure (layout f)) ∙
    omega (
      arith,
      size-each material_chunk material_size f.materials (each object_chunk f.objects end) (all_of material-size f.materials),
      size-each object_chunk object_size f.objects end (all_map object-size f.objects r),
    )
