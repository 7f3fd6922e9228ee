-- A bare figure as bytes: its chunks one after another, and how long they are.
use mathlib.Core.Path.{◌≡◌, refl, ap, ◌∙◌}
use Prim.Native.Nat.{ℕ, ◌+◌, ◌*◌, ◌%◌}
use native.Mathlib.Omega.{arith}
use mathlib.Core.List.{List, [], ◌∷◌, ◌++◌, map, append_assoc, append-nil}
use lib.Ieee.{Float, binary32, to_bits}
use lib.ListN.{length, drop, length-append, length-map}
use Rattle.shared_words.proofs.Bytes.{length-packed}
use Rattle.shared_words.specs.Bytes.{le, packed}
use Rattle.studio_rules.specs.Layout.{Run, end, known, figure, size, header, bytes}
use Rattle.studio_rules.proofs.Sound.{length-bytes}
use Rattle.studio_write_judge.specs.Judged.{triples, figure_size}
use Rattle.studio_write_bytes.specs.Bare.{vertex_data, face_words, face_data, six_chunks, bare}
use Rattle.studio_write_bytes.proofs.Packed.{length-face_words}

-- ---- the bytes of a chunk that is the last of its run, where n is its length

pub last_chunk_bytes : (id : ℕ) (own : List ℕ) (kids : Run) (n : ℕ) → 6 + length own + size kids ≡ n → bytes (known id own kids end) ≡ header id n ++ (own ++ bytes kids)
last_chunk_bytes id own kids n e = rw (e, append-nil (bytes kids))

-- without children
pub leaf-bytes : (id : ℕ) (own : List ℕ) (n : ℕ) → 6 + length own ≡ n → bytes (known id own end end) ≡ header id n ++ own
leaf-bytes id own n e = last_chunk_bytes id own end n (omega arith) ∙ rw (append-nil own)

pub length-leaf : (id : ℕ) (own : List ℕ) → length (bytes (known id own end end)) ≡ 6 + length own
length-leaf id own = length-bytes (known id own end end) ∙ omega arith

-- six chunks: the first four end where the file ends
module _ (name vertices faces : List ℕ) where
  abbrev lists : Run
  lists = known 0x4110 vertices end (known 0x4120 faces end end)

  abbrev mesh : Run
  mesh = known 0x4100 [] lists end

  abbrev object : Run
  object = known 0x4000 name mesh end

  abbrev scene : Run
  scene = known 0x3D3D [] object end

  lists-bytes : bytes lists ≡ bytes (known 0x4110 vertices end end) ++ bytes (known 0x4120 faces end end)
  lists-bytes = rw (append-nil vertices, append_assoc (header 0x4110 (6 + length vertices + 0)) vertices (bytes (known 0x4120 faces end end)))

  pub six_bytes : (n₁ n₂ n₃ n₄ : ℕ) → n₁ ≡ 6 + n₂ → n₂ ≡ 6 + n₃ → n₃ ≡ 6 + length name + n₄ → n₄ ≡ 18 + length vertices + length faces →
      bytes (figure (six_chunks name vertices faces)) ≡
      header 0x4D4D n₁ ++ (header 0x3D3D n₂ ++ (header 0x4000 n₃ ++ (name ++ (header 0x4100 n₄ ++ (bytes (known 0x4110 vertices end end) ++ bytes (known 0x4120 faces end end))))))
  six_bytes n₁ n₂ n₃ n₄ e₁ e₂ e₃ e₄ =
      last_chunk_bytes 0x4D4D [] scene n₁ (omega arith) ∙
      ap (λ (l : List ℕ). header 0x4D4D n₁ ++ l) (last_chunk_bytes 0x3D3D [] object n₂ (omega arith)) ∙
      ap (λ (l : List ℕ). header 0x4D4D n₁ ++ (header 0x3D3D n₂ ++ l)) (last_chunk_bytes 0x4000 name mesh n₃ (omega arith)) ∙
      ap (λ (l : List ℕ). header 0x4D4D n₁ ++ (header 0x3D3D n₂ ++ (header 0x4000 n₃ ++ (name ++ l)))) (last_chunk_bytes 0x4100 [] lists n₄ (omega arith)) ∙
      ap (λ (l : List ℕ). header 0x4D4D n₁ ++ (header 0x3D3D n₂ ++ (header 0x4000 n₃ ++ (name ++ (header 0x4100 n₄ ++ l))))) lists-bytes

  -- the name stands behind three headers, and the mesh behind the name
  abbrev pub behind : List ℕ
  behind = header 0x4100 (18 + length vertices + length faces) ++ (bytes (known 0x4110 vertices end end) ++ bytes (known 0x4120 faces end end))

  pub name-place : drop 18 (bytes (figure (six_chunks name vertices faces))) ≡ name ++ behind
  name-place =
      let n : ℕ = 18 + length vertices + length faces in
      ap (drop 18) (six_bytes (6 + (6 + (6 + length name + n))) (6 + (6 + length name + n)) (6 + length name + n) n refl refl refl refl)

-- ---- lengths

pub length-vertex_data : (vertices : List Float) → length vertices % 3 ≡ 0 → length (vertex_data vertices) ≡ 2 + 12 * triples vertices
length-vertex_data vertices h =
    let bits = map (to_bits binary32) vertices in
    length-append (le 2 (triples vertices)) (packed 4 bits) ∙ omega (arith, length-packed 4 bits, length-map vertices (to_bits binary32))

pub length-face_data : (corners : List ℕ) → length (face_data corners) ≡ 2 + 8 * triples corners
length-face_data corners =
    let words = face_words (triples corners) corners in
    length-append (le 2 (triples corners)) (packed 2 words) ∙ omega (arith, length-packed 2 words, length-face_words (triples corners) corners (omega arith))

pub length-bare : (name : List ℕ) (vertices : List Float) (corners : List ℕ) → length vertices % 3 ≡ 0 →
    length (bytes (figure (bare name vertices corners))) ≡ figure_size name vertices corners
length-bare name vertices corners h =
    length-bytes (figure (bare name vertices corners)) ∙
    omega (arith, length-append name (0 ∷ []), length-vertex_data vertices h, length-face_data corners)
