-- What a reader gets of a figure: the list of known chunks, the byte counts, the meshes, the parts. Each is a fold of the layout.
use Rattle.std.specs.Prelude.{ℕ, suc, ◌+◌, ◌-◌, ◌*◌, Bool, true, false, cond, List, [], ◌∷◌, ◌++◌, eqb, length, replicate}
use Rattle.std.proofs.Math.Option.{Option, none, some}
use Rattle.std.proofs.Math.ListN.{get_elem?}
use Rattle.studio_rules.specs.declared.Record.{Record}
use Rattle.studio_rules.specs.OwnData.{count, vertex_numbers, mapping_numbers, face_corners, father, root}
use Rattle.studio_rules.specs.Layout.{Run, end, skip, known, figure, size, identifiers, child, held}
use Rattle.shared_words.specs.Lists.{among}

-- ---- the list: a Record for each known chunk

-- how many numbers it has
abbrev pub record_numbers : ℕ
record_numbers = 7

-- how many known chunks a run holds, at any depth
abbrev pub record_count : Run → ℕ
record_count end = 0
record_count (skip id body rest) = record_count rest
record_count (known id own kids rest) = suc (record_count kids + record_count rest)

-- The record of a known chunk at offset o, at a depth, in the chunk of record `parent`; its own number is `number`.
-- The seventh number: its own, plus one, plus the count of records inside it at any depth.
abbrev pub record_of : ℕ → ℕ → ℕ → ℕ → ℕ → List ℕ → Run → Record
record_of o depth parent number id own kids =
    record {
      identifier = id;
      offset = o;
      len = 6 + length own + size kids;
      depth = depth;
      parent = parent;
      own = length own;
      next = number + 1 + record_count kids;
    }

-- the records of a run that begins at offset o, at a depth, in the chunk of record `parent`; the first has number `next`
abbrev pub records_of : ℕ → ℕ → ℕ → ℕ → Run → List Record
records_of o depth parent next end = []
records_of o depth parent next (skip id body rest) = records_of (o + (6 + length body)) depth parent next rest
records_of o depth parent next (known id own kids rest) =
    record_of o depth parent next id own kids ∷
    (records_of (o + (6 + length own)) (suc depth) next (suc next) kids ++
    records_of (o + (6 + length own + size kids)) depth parent (suc (next + record_count kids)) rest)

-- the list of a figure, in file order; 4D4D has depth 0 and parent 0
abbrev pub list : Run → List Record
list kids = records_of 0 0 0 0 (figure kids)

-- the list as a flat row of numbers
abbrev pub flat : List Record → List ℕ
flat [] = []
flat (r ∷ rs) = r.identifier ∷ r.offset ∷ r.len ∷ r.depth ∷ r.parent ∷ r.own ∷ r.next ∷ flat rs

-- ---- the byte counts

-- 6 for each known chunk
abbrev pub headers : Run → ℕ
headers end = 0
headers (skip id body rest) = headers rest
headers (known id own kids rest) = 6 + headers kids + headers rest

-- own data of the known chunks
abbrev pub owned : Run → ℕ
owned end = 0
owned (skip id body rest) = owned rest
owned (known id own kids rest) = length own + owned kids + owned rest

-- lengths of the unlisted chunks passed over
abbrev pub skipped : Run → ℕ
skipped end = 0
skipped (skip id body rest) = 6 + length body + skipped rest
skipped (known id own kids rest) = skipped kids + skipped rest

-- ---- the meshes

-- a mesh: where the name of its object stands, and its length without the zero; three numbers a vertex, each a float as
-- its 32 bits; three corners a face; two numbers a pair of its mapping, floats too
pub record Mesh : Type 0 where
  pub name_at : ℕ
  pub name_length : ℕ
  pub vertex_count : ℕ
  pub vertices : List ℕ
  pub face_count : ℕ
  pub corners : List ℕ
  pub pair_count : ℕ
  pub mapping : List ℕ

-- a pair for each vertex where a 4140 stands, else none
abbrev pub pairs_of : Run → ℕ
pairs_of kids = cond (among 0x4140 (identifiers kids)) (count (child 0x4110 kids)) 0

-- numbers and zeros behind them, n in all
abbrev pub filled_up : ℕ → List ℕ → List ℕ
filled_up n numbers = numbers ++ replicate (n - length numbers) 0

-- the pairs that the 4140 has; the missing ones count as zero
abbrev pub mapping_table : Run → List ℕ
mapping_table kids = filled_up (2 * pairs_of kids) (mapping_numbers (child 0x4140 kids))

-- A mesh without 4110 has no vertices, without 4120 no faces: the count of no own data is 0.
abbrev pub mesh_of : ℕ → ℕ → Run → Mesh
mesh_of name_at name_length kids = record {
  name_at = name_at;
  name_length = name_length;
  vertex_count = count (child 0x4110 kids);
  vertices = vertex_numbers (child 0x4110 kids);
  face_count = count (child 0x4120 kids);
  corners = face_corners (child 0x4120 kids);
  pair_count = pairs_of kids;
  mapping = mapping_table kids;
}

abbrev pub one_mesh : Bool → Mesh → List Mesh
one_mesh true m = m ∷ []
one_mesh false m = []

-- The meshes of a run that begins at o, in a chunk whose own data begins at `name_at` and has `name_length` bytes and one
-- more. (Every 4100 stands in a 4000, whose own data is its name with the zero.)
abbrev pub meshes_of : ℕ → ℕ → ℕ → Run → List Mesh
meshes_of o name_at name_length end = []
meshes_of o name_at name_length (skip id body rest) = meshes_of (o + (6 + length body)) name_at name_length rest
meshes_of o name_at name_length (known id own kids rest) =
    one_mesh (eqb id 0x4100) (mesh_of name_at name_length kids) ++
    (meshes_of (o + (6 + length own)) (o + 6) (length own - 1) kids ++
    meshes_of (o + (6 + length own + size kids)) name_at name_length rest)

-- the meshes of a figure, in file order over all 4100
abbrev pub meshes : Run → List Mesh
meshes kids = meshes_of 0 0 0 (figure kids)

-- ---- the parts that move: who hangs on whom

-- a part: the number of its father, or `root`; and how many fathers there are above it
pub record Part : Type 0 where
  pub father : ℕ
  pub depth : ℕ

-- what the B010 of each B002 tells, in file order: the number of a part is the order of its B002
abbrev pub fathers_in : Run → List ℕ
fathers_in end = []
fathers_in (skip id body rest) = fathers_in rest
fathers_in (known id own kids rest) = cond (eqb id 0xB002) (father (child 0xB010 kids) ∷ fathers_in rest) (fathers_in rest)

-- the fathers of a figure's parts: they stand in its one B000
abbrev pub fathers : Run → List ℕ
fathers kids = fathers_in (held 0xB000 kids)

-- one deeper than the father
abbrev pub below : Option Part → ℕ
below none = 0
below (some q) = suc q.depth

-- a part with the father f, behind the parts `done`
abbrev pub part_of : List Part → ℕ → Part
part_of done f = record { father = f; depth = cond (eqb f root) 0 (below (get_elem? done f)) }

abbrev pub parts_from : List Part → List ℕ → List Part
parts_from done [] = done
parts_from done (f ∷ fs) = parts_from (done ++ (part_of done f ∷ [])) fs

-- the parts of a figure, in file order
abbrev pub parts : Run → List Part
parts kids = parts_from [] (fathers kids)
