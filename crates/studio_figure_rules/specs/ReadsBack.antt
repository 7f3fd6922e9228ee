-- What is written reads back: the file is accepted, its meshes are the objects given, and the own data of the chunks in its
-- list hold just what was given, in order.
use Rattle.std.specs.Prelude.{◌≡◌, ℕ, ◌+◌, ◌≤◌, List, [], ◌∷◌, ◌++◌, map, Float, length, take, drop, Ok, Err}
use Rattle.std.proofs.Math.Option.{some}
use Rattle.std.proofs.Math.ListN.{get_elem?}
use Rattle.shared_words.specs.declared.Refusal.TheVariants.{NoSuchMesh}
use Rattle.studio_rules.specs.declared.Record.{Record}
use Rattle.shared_words.specs.Bytes.{packed, Bytes}
use Rattle.studio_rules.specs.Layout.{figure, bytes}
use Rattle.studio_rules.specs.Rules.{Meets}
use Rattle.studio_rules.specs.Walk.{version_in, verdict}
use Rattle.shared_words.specs.Conditions.{accepted}
use Rattle.studio_rules.specs.Gives.{list, skipped, Mesh, meshes}
use Rattle.studio_rules.specs.Encodings.{part_row}
use Rattle.shared_words.specs.Effects.{leaving}
use Rattle.studio_rules.specs.Calls.{Rows, in_numbers, tables_of, tables_call, name_call, parts_call}
use Rattle.studio_write_judge.specs.Judged.{triples}
use Rattle.studio_write_bytes.specs.Bare.{name_data, face_data}
use Rattle.studio_write.specs.ReadsBack.{Floats32}
use Rattle.studio_figure_rules.specs.Given.{Group, Object, Colour, Material, Figure, over, object_names, rgb, Bits32, Colours8}
use Rattle.studio_figure_rules.specs.Built.{vertex_list, group_data, layout}
use Rattle.studio_figure_rules.specs.Judged.{object_size, material_size, size_of}
use Rattle.shared_words.specs.Lists.{total}
use Rattle.studio_figure_rules.specs.Write.{write_figure}
use Rattle.studio_figure_rules.specs.Described.{Flat, described, write_flat}

-- ---- the chunks of the list

-- a chunk by its identifier and its own data
pub record Chunk : Type 0 where
  pub identifier : ℕ
  pub own : List ℕ

abbrev pub chunk : ℕ → List ℕ → Chunk
chunk identifier own = record { identifier = identifier; own = own }

-- the chunk that a record of the list speaks of, in the file s
abbrev pub chunk_in : List ℕ → Record → Chunk
chunk_in s r = chunk r.identifier (take r.own (drop (r.offset + 6) s))

-- what is written of a material
abbrev pub colour_written : ℕ → Colour → List Chunk
colour_written id c = chunk id [] ∷ chunk 0x0011 (rgb c) ∷ []

abbrev pub material_written : Material → List Chunk
material_written m =
    chunk 0xAFFF [] ∷ chunk 0xA000 (name_data m.name) ∷
    (colour_written 0xA010 m.ambient ++ (colour_written 0xA020 m.diffuse ++ colour_written 0xA030 m.specular))

-- what is written of an object
abbrev pub group_written : Group → List Chunk
group_written g = chunk 0x4130 (group_data g) ∷ []

abbrev pub smoothing_written : List ℕ → List Chunk
smoothing_written [] = []
smoothing_written (w ∷ ws) = chunk 0x4150 (packed 4 (w ∷ ws)) ∷ []

abbrev pub object_written : Object → List Chunk
object_written o =
    chunk 0x4000 (name_data o.name) ∷ chunk 0x4100 [] ∷
    chunk 0x4110 (vertex_list o.vertices) ∷
    chunk 0x4120 (face_data o.corners) ∷ (over group_written o.groups ++ smoothing_written o.smoothing)

abbrev pub figure_written : Figure → List Chunk
figure_written f = chunk 0x4D4D [] ∷ chunk 0x3D3D [] ∷ (over material_written f.materials ++ over object_written f.objects)

-- ---- the meshes

-- an object as a mesh, where its name stands at an offset
abbrev pub mesh_given : ℕ → Object → Mesh
mesh_given name_at o = record {
  name_at = name_at;
  name_length = length o.name;
  vertex_count = triples o.vertices;
  vertices = o.vertices;
  face_count = triples o.corners;
  corners = o.corners;
  pair_count = 0;
  mapping = [];
}

-- objects whose first 4000 stands at an offset
abbrev pub meshes_given : ℕ → List Object → List Mesh
meshes_given at [] = []
meshes_given at (o ∷ os) = mesh_given (at + 6) o ∷ meshes_given (at + object_size o) os

-- behind 4D4D, 3D3D and the materials
abbrev pub first_object : Figure → ℕ
first_object f = 12 + total material_size f.materials

-- the name of a mesh, in the file s
abbrev pub name_in : List ℕ → Mesh → List ℕ
name_in s m = take m.name_length (drop m.name_at s)

-- mesh k has this name, which stands where the reader says
pub record NameStands (s : List ℕ) (k : ℕ) (name : List ℕ) : Type 0 where
  pub offset : ℕ
  pub call : name_call s k ≡ Ok record { offset = offset; size = length name }
  pub there : take (length name) (drop offset s) ≡ name

-- ---- the file

-- THE FILE s READS BACK to a figure
pub record ReadsBack (f : Figure) (s : List ℕ) : Type 0 where
  pub is : s ≡ bytes (figure (layout f))
  pub size : length s ≡ size_of f
  pub is-bytes : Colours8 f → Bytes s
  pub meets-rules : Meets s (layout f)
  pub is-accepted : verdict s ≡ accepted (layout f)
  -- the list: each chunk with its own data, and nothing is skipped
  pub chunks_are : map (chunk_in s) (list (layout f)) ≡ figure_written f
  pub none-skipped : skipped (figure (layout f)) ≡ 0
  -- the meshes, and their names
  pub meshes_are : meshes (layout f) ≡ meshes_given (first_object f) f.objects
  pub names_are : map (name_in s) (meshes (layout f)) ≡ object_names f
  -- by the reader's calls: mesh k is object k, and there are no more (the tables do not look at where the name stands)
  pub tables : (k : ℕ) (o : Object) (rows : Rows Float ℕ Float) → get_elem? f.objects k ≡ some o →
      tables_call in_numbers s k rows ≡ tables_of in_numbers rows (mesh_given 0 o)
  pub name : (k : ℕ) (o : Object) → get_elem? f.objects k ≡ some o → NameStands s k o.name
  pub no_more : (k : ℕ) → length f.objects ≤ k → name_call s k ≡ Err (NoSuchMesh (length f.objects))
  -- no version is told, and the figure has no parts
  pub no-version : version_in (drop 6 s) ≡ 0
  pub no-parts : (row : List ℕ) → parts_call part_row s row ≡ leaving (Ok 0) row

-- WHAT IS WRITTEN READS BACK: for every figure and buffer that are not refused, the first `size` bytes of the buffer
abbrev pub WrittenReadsBack : Type 0
WrittenReadsBack = (f : Figure) (out : List ℕ) (size : ℕ) → Bits32 f → (write_figure f out).answer ≡ Ok size → ReadsBack f (take size (write_figure f out).rows)

-- and of rows
abbrev pub FlatReadsBack : Type 0
FlatReadsBack = (r : Flat) (out : List ℕ) (size : ℕ) → Floats32 r.vertices → (write_flat r out).answer ≡ Ok size →
    ReadsBack (described r) (take size (write_flat r out).rows)
