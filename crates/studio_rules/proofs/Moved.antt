-- Demand 3 over lists: each record of the file with the chunks is the old one, moved; each mesh is the same.
-- By the layout, which both files share: where the run begins before and after, and what was put in before it.
use mathlib.Core.Path.{◌≡◌, refl}
use Prim.Native.Nat.{ℕ, suc, ◌+◌, ◌-◌}
use native.Mathlib.Omega.{arith}
use mathlib.Core.Bool.{Bool, true, false}
use mathlib.Core.List.{List}
use lib.ListN.{length}
use lib.Dec.{eqb}
use Rattle.studio_rules.specs.Layout.{size}
use Rattle.studio_rules.specs.Gives.{record_count, records_of, mesh_of, one_mesh, meshes_of}
use Rattle.studio_rules.specs.Gaps.{Marked, end, put, skip, known, without, with, Piece, before, Moved, SameMesh}
use Rattle.shared_words.specs.Lists.{Pairwise}
use Rattle.studio_rules.proofs.Gaps.{added, size-grows, record_count-same, child-same, pairs-same, mapping_same}
use Rattle.studio_rules.proofs.Pieces.{Holds, holds-put, holds-skip, holds_kids, holds-rest, before_here, inside-here}
use Rattle.shared_words.proofs.Lists.{pairwise_append}

-- the run begins at o without the chunks, and at o' with them; a bytes are put in before it
pub records-moved : (ps : List Piece) (o o' depth parent next a : ℕ) (m : Marked) → o' ≡ o + a → Holds ps o' a m →
    Pairwise (Moved ps) (records_of o depth parent next (without m)) (records_of o' depth parent next (with m))
records-moved ps o o' depth parent next a end e h = tt
records-moved ps o o' depth parent next a (put id body rest) e h =
    records-moved ps o (o' + (6 + length body)) depth parent next (a + (6 + length body)) rest (omega arith) (holds-put ps o' a id body rest h)
records-moved ps o o' depth parent next a (skip id body rest) e h =
    records-moved ps (o + (6 + length body)) (o' + (6 + length body)) depth parent next a rest (omega arith) (holds-skip ps o' a id body rest h)
records-moved ps o o' depth parent next a (known id own kids rest) e h =
    let g = size-grows kids in
    let b = before_here ps o' a id own kids rest h o' (omega arith) (omega arith) in
    let i = inside-here ps o' a id own kids rest h in
    let k = records-moved ps (o + (6 + length own)) (o' + (6 + length own)) (suc depth) next (suc next) a kids (omega arith) (holds_kids ps o' a id own kids rest h) in
    let r = records-moved ps (o + (6 + length own + size (without kids))) (o' + (6 + length own + size (with kids))) depth parent (suc (next + record_count (without kids))) (a + added kids) rest (omega arith) (holds-rest ps o' a id own kids rest h) in (
      record { identifier-same = refl; offset_grows = omega arith; length-grows = omega arith; depth_same = refl; parent-same = refl; own_same = refl; next-same = rw (record_count-same kids) },
      rw (record_count-same kids) (pairwise_append (Moved ps) (records_of (o + (6 + length own)) (suc depth) next (suc next) (without kids)) (records_of (o + (6 + length own + size (without kids))) depth parent (suc (next + record_count (without kids))) (without rest))
          (records_of (o' + (6 + length own)) (suc depth) next (suc next) (with kids)) (records_of (o' + (6 + length own + size (with kids))) depth parent (suc (next + record_count (without kids))) (with rest)) k r),
    )

one_same : (ps : List Piece) (e : Bool) (at at' l : ℕ) (m : Marked) → at' ≡ at + before at' ps →
    Pairwise (SameMesh ps) (one_mesh e (mesh_of at l (without m))) (one_mesh e (mesh_of at' l (with m)))
one_same ps true at at' l m h = (
  record {
    name-grows = h;
    name-length-same = refl;
    vertex-count-same = rw (child-same 0x4110 m);
    vertices-same = rw (child-same 0x4110 m);
    face-count-same = rw (child-same 0x4120 m);
    corners-same = rw (child-same 0x4120 m);
    pair_count_same = pairs-same m;
    mapping_same = mapping_same m;
  },
  tt,
)
one_same ps false at at' l m h = tt

-- the name of the chunk around stands at `at` and at'
pub meshes-same : (ps : List Piece) (o o' at at' l a : ℕ) (m : Marked) → o' ≡ o + a → at' ≡ at + before at' ps → Holds ps o' a m →
    Pairwise (SameMesh ps) (meshes_of o at l (without m)) (meshes_of o' at' l (with m))
meshes-same ps o o' at at' l a end e n h = tt
meshes-same ps o o' at at' l a (put id body rest) e n h =
    meshes-same ps o (o' + (6 + length body)) at at' l (a + (6 + length body)) rest (omega arith) n (holds-put ps o' a id body rest h)
meshes-same ps o o' at at' l a (skip id body rest) e n h =
    meshes-same ps (o + (6 + length body)) (o' + (6 + length body)) at at' l a rest (omega arith) n (holds-skip ps o' a id body rest h)
meshes-same ps o o' at at' l a (known id own kids rest) e n h =
    let g = size-grows kids in
    let b = before_here ps o' a id own kids rest h (o' + 6) (omega arith) (omega arith) in
    let k = meshes-same ps (o + (6 + length own)) (o' + (6 + length own)) (o + 6) (o' + 6) (length own - 1) a kids (omega arith) (omega arith) (holds_kids ps o' a id own kids rest h) in
    let r = meshes-same ps (o + (6 + length own + size (without kids))) (o' + (6 + length own + size (with kids))) at at' l (a + added kids) rest (omega arith) n (holds-rest ps o' a id own kids rest h) in
    pairwise_append (SameMesh ps) (one_mesh (eqb id 0x4100) (mesh_of at l (without kids))) _ (one_mesh (eqb id 0x4100) (mesh_of at' l (with kids))) _
    (one_same ps (eqb id 0x4100) at at' l kids n)
    (pairwise_append (SameMesh ps) (meshes_of (o + (6 + length own)) (o + 6) (length own - 1) (without kids)) _ (meshes_of (o' + (6 + length own)) (o' + 6) (length own - 1) (with kids)) _ k r)
