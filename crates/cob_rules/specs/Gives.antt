-- What a reader gets of a Caligari file: the list of chunks of the four types, with their topmost owners, and the meshes.
use Rattle.std.specs.Prelude.{ℕ, Bool, true, false, not, ◌&&◌, cond, List, [], ◌∷◌, ◌++◌, eqb, length}
use Rattle.shared_flat.specs.Flat.{Format, records}
use Rattle.cob_rules.specs.declared.Record.{Record}
use Rattle.cob_rules.specs.Kinds.{listed, is_mesh}
use Rattle.cob_rules.specs.Mesh.{count_of, vertex_list, vertex_numbers, faces_of, triangles, corners_of}
use Rattle.cob_rules.specs.Layout.{Chunk, kind, letters, identifier, parent, size, Layout, last_at}
use Rattle.cob_rules.specs.Rules.{remember}

-- ---- owners

-- from identifier x one step up, where c is the chunk of that identifier and has a parent
abbrev pub one_up : Chunk → ℕ → ℕ
one_up c x = cond (eqb (identifier c) x && not (eqb (parent c) 0)) (parent c) x

-- The topmost owner of identifier x among chunks of which the nearest comes first: parents stand earlier, so that one look
-- at each chunk is enough. (Theorems has the owner as the end of the way up through the parents.)
unfoldable pub topmost : List Chunk → ℕ → ℕ
topmost [] x = x
topmost (c ∷ cs) x = topmost cs (one_up c x)

-- ---- the list

abbrev pub record_of : List Chunk → ℕ → Chunk → Record
record_of seen o c = record {
  kind = letters c;
  offset = o;
  len = size c;
  identifier = identifier c;
  parent = parent c;
  owner = topmost (c ∷ seen) (identifier c);
}

-- END has zeros
abbrev pub end_record : ℕ → Chunk → Record
end_record o c = record { kind = letters c; offset = o; len = size c; identifier = 0; parent = 0; owner = 0 }

abbrev pub one_if : {A : Type 0} → Bool → A → List A
one_if true r = r ∷ []
one_if false r = []

-- the chunks before END as a flat file: the state is the chunks seen, the nearest first
abbrev pub caligari : Format (List Chunk) Chunk Record
caligari = record {
  size = size;
  after = remember;
  gives = λ seen o c. one_if (listed (kind c)) (record_of seen o c);
}

abbrev pub list : Layout → List Record
list l = records caligari [] 32 l.chunks ++ (end_record (last_at l) l.last ∷ [])

-- ---- the meshes

-- three numbers a vertex, each a float as its 32 bits; three corners a face
pub record Mesh : Type 0 where
  pub vertex_count : ℕ
  pub vertices : List ℕ
  pub face_count : ℕ
  pub corners : List ℕ

-- of the body of a PolH
abbrev pub mesh_in : List ℕ → Mesh
mesh_in body = record {
  vertex_count = count_of (vertex_list body);
  vertices = vertex_numbers body;
  face_count = length (triangles (faces_of body));
  corners = corners_of (triangles (faces_of body));
}

abbrev pub mesh_of : Chunk → Mesh
mesh_of c = mesh_in c.body

-- in file order over all PolH
abbrev pub meshes_of : List Chunk → List Mesh
meshes_of [] = []
meshes_of (c ∷ cs) = one_if (is_mesh (kind c)) (mesh_of c) ++ meshes_of cs

abbrev pub meshes : Layout → List Mesh
meshes l = meshes_of l.chunks
