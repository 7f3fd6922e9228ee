-- A figure that is ready is written in bytes: its names are text, its numbers are packed, and its colours are bytes.
use mathlib.Core.Path.{◌≡◌}
use Prim.Native.Nat.{ℕ, ◌+◌}
use native.Mathlib.Omega.{arith}
use mathlib.Core.Bool.{true}
use mathlib.Core.List.{List, [], ◌∷◌, ◌++◌}
use lib.Dec.{leb, ltb}
use lib.ListN.{length}
use borrow.Author.Tests.{leb-true, ltb-true}
use Rattle.shared_words.specs.Bytes.{le, packed, Bytes}
use Rattle.shared_words.specs.Lists.{every, All}
use Rattle.shared_words.specs.Labels.{printable}
use Rattle.shared_words.specs.Labels.{fits_label}
use Rattle.studio_rules.specs.Layout.{Run, end, skip, known, figure, size, header, bytes}
use Rattle.studio_rules.specs.Rules.{all_below}
use Rattle.shared_words.proofs.Bools.{and_parts}
use Rattle.studio_write_judge.specs.Judged.{triples}
use Rattle.studio_write_bytes.specs.Bare.{name_data, face_words}
use Rattle.studio_figure_rules.specs.Given.{Group, Object, Material, Figure, rgb, colours, Colours8}
use Rattle.studio_figure_rules.specs.Built.{each, group_chunk, smoothing_chunk, object_chunk, material_chunk, layout}
use Rattle.studio_figure_rules.proofs.Lists.{all_map}
use Rattle.studio_figure_rules.proofs.Ready.{GroupReady, ObjectReady, MaterialReady}
use Rattle.shared_words.proofs.Bytes.{bytes_append, bytes-parts, bytes_le}

-- ---- lists of bytes

packed-bytes : (w : ℕ) (ns : List ℕ) → Bytes (packed w ns)
packed-bytes w [] = tt
packed-bytes w (n ∷ ns) = bytes_append (le w n) (packed w ns) (bytes_le w n) (packed-bytes w ns)

below-bytes : (s : List ℕ) → all_below 256 s ≡ true → Bytes s
unfolding every
below-bytes [] h = tt
below-bytes (x ∷ s) h = let k = and_parts (ltb x 256) (all_below 256 s) h in (ltb-true x 256 k.0, below-bytes s k.1)

text-bytes : (name : List ℕ) → every printable name ≡ true → Bytes name
unfolding every
text-bytes [] h = tt
text-bytes (x ∷ name) h =
    let k = and_parts (printable x) (every printable name) h in
    let l = leb-true x 126 (and_parts (leb 32 x) (leb x 126) k.0).1 in
    (omega arith, text-bytes name k.1)

name-bytes : (name : List ℕ) → fits_label name ≡ true → Bytes (name_data name)
unfolding fits_label
name-bytes name h = bytes_append name (0 ∷ []) (text-bytes name (and_parts (leb (length name) 63) (every printable name) h).1) (omega arith, tt)

counted-bytes : (n w : ℕ) (ns : List ℕ) → Bytes (le 2 n ++ packed w ns)
counted-bytes n w ns = bytes_append (le 2 n) (packed w ns) (bytes_le 2 n) (packed-bytes w ns)

-- ---- layouts

-- own data, and what is skipped, are bytes
abbrev OwnBytes : Run → Type 0
OwnBytes end = Unit
OwnBytes (skip id body rest) = Bytes body × OwnBytes rest
OwnBytes (known id own kids rest) = Bytes own × OwnBytes kids × OwnBytes rest

header-bytes : (id n : ℕ) → Bytes (header id n)
header-bytes id n = bytes_append (le 2 id) (le 4 n) (bytes_le 2 id) (bytes_le 4 n)

run-bytes : (t : Run) → OwnBytes t → Bytes (bytes t)
run-bytes end h = tt
run-bytes (skip id body rest) h =
    bytes_append (header id (6 + length body)) (body ++ bytes rest) (header-bytes id (6 + length body)) (bytes_append body (bytes rest) h.0 (run-bytes rest h.1))
run-bytes (known id own kids rest) h =
    bytes_append (header id (6 + length own + size kids)) (own ++ (bytes kids ++ bytes rest)) (header-bytes id (6 + length own + size kids))
    (bytes_append own (bytes kids ++ bytes rest) h.0 (bytes_append (bytes kids) (bytes rest) (run-bytes kids h.1) (run-bytes rest h.2)))

each-bytes : {A : Type 0} (chunk : A → Run → Run) (xs : List A) (rest : Run) → All (λ x. (more : Run) → OwnBytes more → OwnBytes (chunk x more)) xs →
    OwnBytes rest → OwnBytes (each chunk xs rest)
each-bytes chunk [] rest a h = h
each-bytes chunk (x ∷ xs) rest a h = a.0 (each chunk xs rest) (each-bytes chunk xs rest a.1 h)

-- ---- a figure

smoothing_bytes : (words : List ℕ) → OwnBytes (smoothing_chunk words)
smoothing_bytes [] = tt
smoothing_bytes (w ∷ ws) = (packed-bytes 4 (w ∷ ws), tt, tt)

group-bytes : (f : ℕ) (g : Group) → GroupReady f g → (rest : Run) → OwnBytes rest → OwnBytes (group_chunk g rest)
group-bytes f g r rest h = (bytes_append (name_data g.name) _ (name-bytes g.name r.text) (counted-bytes (length g.faces) 2 g.faces), tt, h)

object-bytes : (o : Object) → ObjectReady o → (rest : Run) → OwnBytes rest → OwnBytes (object_chunk o rest)
object-bytes o r rest h =
    let groups = each-bytes group_chunk o.groups (smoothing_chunk o.smoothing) (all_map (group-bytes (triples o.corners)) o.groups r.groups_ready) (smoothing_bytes o.smoothing) in
    let vertices = counted-bytes (triples o.vertices) 4 o.vertices in
    let faces = counted-bytes (triples o.corners) 2 (face_words (triples o.corners) o.corners) in
    (name-bytes o.name r.text, (tt, (vertices, tt, (faces, groups, tt)), tt), h)

materials_bytes : (ms : List Material) (rest : Run) → All MaterialReady ms → every (λ m. all_below 256 (colours m)) ms ≡ true →
    OwnBytes rest → OwnBytes (each material_chunk ms rest)
unfolding every
materials_bytes [] rest a c h = h
materials_bytes (m ∷ ms) rest a c h =
    let k = and_parts (all_below 256 (colours m)) _ c in
    let b = bytes-parts (rgb m.ambient) (rgb m.diffuse ++ rgb m.specular) (below-bytes (colours m) k.0) in
    let d = bytes-parts (rgb m.diffuse) (rgb m.specular) b.1 in
    (tt, (name-bytes m.name a.0.text, tt, (tt, (b.0, tt, tt), (tt, (d.0, tt, tt), (tt, (d.1, tt, tt), tt)))), materials_bytes ms rest a.1 k.1 h)

pub figure-bytes : (f : Figure) → All ObjectReady f.objects → All MaterialReady f.materials → Colours8 f → Bytes (bytes (figure (layout f)))
figure-bytes f os ms c =
    let objects = each-bytes object_chunk f.objects end (all_map object-bytes f.objects os) tt in
    run-bytes (figure (layout f)) (tt, (tt, materials_bytes f.materials (each object_chunk f.objects end) ms c objects, tt), tt)
