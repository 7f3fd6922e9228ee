-- The layout of a bare figure: 4D4D, 3D3D, 4000, 4100, 4110, 4120 in that order, of a name without its zero, a row of
-- floats and a row of corners.
use Rattle.std.specs.Prelude.{ℕ, zero, suc, List, [], ◌∷◌, ◌++◌, map, take, drop, Float}
use Rattle.std.specs.Float.{binary32}
use Rattle.std.specs.Float.Ieee.{to_bits}
use Rattle.shared_words.specs.Bytes.{le, packed}
use Rattle.studio_rules.specs.Layout.{Run, end, known, figure, bytes}
use Rattle.studio_write_judge.specs.Judged.{triples}

-- ---- own data

-- 4000: the name, and its zero
abbrev pub name_data : List ℕ → List ℕ
name_data name = name ++ (0 ∷ [])

-- 4110: word n, then n times three floats, each as its 32 bits
abbrev pub vertex_data : List Float → List ℕ
vertex_data vertices = le 2 (triples vertices) ++ packed 4 (map (to_bits binary32) vertices)

-- f times three corner words and a flag word, which is 0
abbrev pub face_words : ℕ → List ℕ → List ℕ
face_words zero corners = []
face_words (suc f) corners = take 3 corners ++ (0 ∷ face_words f (drop 3 corners))

-- 4120: word f, then the faces
abbrev pub face_data : List ℕ → List ℕ
face_data corners = le 2 (triples corners) ++ packed 2 (face_words (triples corners) corners)

-- ---- the chunks

-- the children of 4D4D, by the own data of 4000, 4110 and 4120
abbrev pub six_chunks : List ℕ → List ℕ → List ℕ → Run
six_chunks name vertices faces =
    known 0x3D3D []
    (known 0x4000 name
    (known 0x4100 []
    (known 0x4110 vertices end
    (known 0x4120 faces end end)) end) end) end

-- A BARE FIGURE: the children of its 4D4D
abbrev pub bare : List ℕ → List Float → List ℕ → Run
bare name vertices corners = six_chunks (name_data name) (vertex_data vertices) (face_data corners)

-- its bytes
abbrev pub bare_bytes : List ℕ → List Float → List ℕ → List ℕ
bare_bytes name vertices corners = bytes (figure (bare name vertices corners))
