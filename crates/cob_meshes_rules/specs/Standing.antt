-- The meshes of a Caligari file where they stand, and what a viewer is told of each: eight numbers.
use Rattle.std.specs.Prelude.{ℕ, ◌+◌, cond, List, [], ◌∷◌, ◌++◌}
use Rattle.shared_words.specs.Lists.{total}
use Rattle.cob_rules.specs.Fields.{field}
use Rattle.cob_rules.specs.Kinds.{is_mesh, listed}
use Rattle.cob_rules.specs.Mesh.{Face, faces_of}
use Rattle.cob_rules.specs.Layout.{Chunk, kind, size, Layout}
use Rattle.cob_rules.specs.Gives.{Mesh, one_if, mesh_in}

-- a PolH: where its chunk stands, the number of its record in the list, and its body
pub record Standing : Type 0 where
  pub at : ℕ
  pub number : ℕ
  pub body : List ℕ

-- the mesh that it is
abbrev pub mesh_of : Standing → Mesh
mesh_of m = mesh_in m.body

-- those of chunks that begin at o, where the next record has the number n
abbrev pub standing_from : ℕ → ℕ → List Chunk → List Standing
standing_from o n [] = []
standing_from o n (c ∷ cs) =
    one_if (is_mesh (kind c)) record { at = o; number = n; body = c.body } ++
    standing_from (o + size c) (n + cond (listed (kind c)) 1 0) cs

-- those of a file, in file order
abbrev pub standing : Layout → List Standing
standing l = standing_from 32 0 l.chunks

-- ---- its numbers

-- behind a header of 20 bytes the name: a dupecount and a length, two bytes each, and so many bytes
abbrev pub name_at : Standing → ℕ
name_at m = m.at + 24

abbrev pub name_length : Standing → ℕ
name_length m = field 2 2 m.body

-- then the local axes, 48 bytes, and the current position, 48 bytes
abbrev pub position_at : Standing → ℕ
position_at m = name_at m + name_length m + 48

-- then the count of vertices, four bytes, and these
abbrev pub vertices_at : Standing → ℕ
vertices_at m = position_at m + 52

-- faces, whatever corners and holes they have; a hole is none
abbrev pub face_count : List Face → ℕ
face_count fs = total (λ f. cond f.is_hole 0 1) fs

-- "offset and length of its name, offset of its Current Position …, vertices and the offset of the first float, faces in all, faces
-- that tds_cob_tables gives …, and the record number of its chunk in tds_cob_list"
abbrev pub mesh_numbers : Standing → List ℕ
mesh_numbers m =
    name_at m ∷ name_length m ∷ position_at m ∷ (mesh_of m).vertex_count ∷ vertices_at m ∷ face_count (faces_of m.body) ∷ (mesh_of m).face_count ∷ m.number ∷ []

abbrev pub flat_meshes : List Standing → List ℕ
flat_meshes [] = []
flat_meshes (m ∷ ms) = mesh_numbers m ++ flat_meshes ms
