-- The chunks of the list with their own data: of any layout, as the records find them in its file; and of a figure, as
-- given.
use mathlib.Core.Path.{◌≡◌, refl, sym, ap, ◌∙◌}
use Prim.Native.Nat.{ℕ, suc, ◌+◌}
use native.Mathlib.Omega.{arith}
use mathlib.Core.List.{List, [], ◌∷◌, ◌++◌, map, append_assoc, append-nil, map-append}
use lib.ListN.{length, take, drop}
use lib.Seq.{take_at}
use Rattle.shared_words.specs.Lists.{All}
use Rattle.studio_rules.specs.Layout.{Run, end, skip, known, figure, size, bytes}
use Rattle.studio_rules.specs.Gives.{record_count, records_of, list, skipped}
use Rattle.studio_figure_rules.specs.Given.{Object, Material, Figure, over}
use Rattle.studio_figure_rules.specs.Built.{each, group_chunk, smoothing_chunk, face_children, object_chunk, material_chunk, scene, layout}
use Rattle.studio_figure_rules.specs.ReadsBack.{Chunk, chunk, chunk_in, group_written, smoothing_written, object_written, material_written, figure_written}
use Rattle.studio_figure_rules.proofs.Lists.{all_of}
use Rattle.studio_figure_rules.proofs.Stands.{Stands, skip-stands, own_stands, kids_stand, rest-stands}

-- ---- of any layout

-- its known chunks, in file order
abbrev pub chunks : Run → List Chunk
chunks end = []
chunks (skip id body rest) = chunks rest
chunks (known id own kids rest) = chunk id own ∷ (chunks kids ++ chunks rest)

pub records-chunks : (s : List ℕ) (at depth parent next : ℕ) (t : Run) (more : List ℕ) → Stands s at t more → map (chunk_in s) (records_of at depth parent next t) ≡ chunks t
records-chunks s at depth parent next end more h = refl
records-chunks s at depth parent next (skip id body rest) more h =
    records-chunks s (at + (6 + length body)) depth parent next rest more (skip-stands s at id body rest more h)
records-chunks s at depth parent next (known id own kids rest) more h =
    let inner = records_of (at + (6 + length own)) (suc depth) next (suc next) kids in
    let outer = records_of (at + (6 + length own + size kids)) depth parent (suc (next + record_count kids)) rest in
    let here : take (length own) (drop (at + 6) s) ≡ own =
    ap (take (length own)) (own_stands s at id own kids rest more h) ∙ take_at own (bytes kids ++ (bytes rest ++ more)) (length own) refl in
    let k = records-chunks s (at + (6 + length own)) (suc depth) next (suc next) kids (bytes rest ++ more) (kids_stand s at id own kids rest more h) in
    let r = records-chunks s (at + (6 + length own + size kids)) depth parent (suc (next + record_count kids)) rest more (rest-stands s at id own kids rest more h) in
    rw (here, map-append (chunk_in s) inner outer, k, r)

pub list-chunks : (kids : Run) → map (chunk_in (bytes (figure kids))) (list kids) ≡ chunks (figure kids)
list-chunks kids = records-chunks (bytes (figure kids)) 0 0 0 0 (figure kids) [] (sym (append-nil (bytes (figure kids))))

-- ---- of a figure

chunks-each : {A : Type 0} (one : A → Run → Run) (written : A → List Chunk) (xs : List A) (rest : Run) →
    All (λ x. (more : Run) → chunks (one x more) ≡ written x ++ chunks more) xs → chunks (each one xs rest) ≡ over written xs ++ chunks rest
chunks-each one written [] rest a = refl
chunks-each one written (x ∷ xs) rest a =
    a.0 (each one xs rest) ∙ ap (λ (l : List Chunk). written x ++ l) (chunks-each one written xs rest a.1) ∙ sym (append_assoc (written x) (over written xs) (chunks rest))

smoothing_chunks : (words : List ℕ) → chunks (smoothing_chunk words) ≡ smoothing_written words
smoothing_chunks [] = refl
smoothing_chunks (w ∷ ws) = refl

object-chunks : (o : Object) (rest : Run) → chunks (object_chunk o rest) ≡ object_written o ++ chunks rest
object-chunks o rest =
    let gs = chunks-each group_chunk group_written o.groups (smoothing_chunk o.smoothing) (all_of (λ g more. refl) o.groups) in
    let below = chunks (face_children o) in
    rw (append-nil below, append-nil below, gs, smoothing_chunks o.smoothing)

material-chunks : (m : Material) (rest : Run) → chunks (material_chunk m rest) ≡ material_written m ++ chunks rest
material-chunks m rest = refl

pub figure-chunks : (f : Figure) → chunks (figure (layout f)) ≡ figure_written f
figure-chunks f =
    let os = chunks-each object_chunk object_written f.objects end (all_of object-chunks f.objects) in
    let ms = chunks-each material_chunk material_written f.materials (each object_chunk f.objects end) (all_of material-chunks f.materials) in
    let inside = chunks (scene f) in
    rw (append-nil inside, append-nil inside, ms, os, append-nil (over object_written f.objects))

-- ---- nothing is skipped

skipped-each : {A : Type 0} (chunk : A → Run → Run) (xs : List A) (rest : Run) → All (λ x. (more : Run) → skipped (chunk x more) ≡ skipped more) xs →
    skipped (each chunk xs rest) ≡ skipped rest
skipped-each chunk [] rest a = refl
skipped-each chunk (x ∷ xs) rest a = a.0 (each chunk xs rest) ∙ skipped-each chunk xs rest a.1

smoothing_known : (words : List ℕ) → skipped (smoothing_chunk words) ≡ 0
smoothing_known [] = refl
smoothing_known (w ∷ ws) = refl

object-known : (o : Object) (rest : Run) → skipped (object_chunk o rest) ≡ skipped rest
object-known o rest =
    omega (arith, skipped-each group_chunk o.groups (smoothing_chunk o.smoothing) (all_of (λ g more. omega arith) o.groups), smoothing_known o.smoothing)

pub figure-known : (f : Figure) → skipped (figure (layout f)) ≡ 0
figure-known f =
    omega (
      arith,
      skipped-each material_chunk f.materials (each object_chunk f.objects end) (all_of (λ m more. omega arith) f.materials),
      skipped-each object_chunk f.objects end (all_of object-known f.objects),
    )
