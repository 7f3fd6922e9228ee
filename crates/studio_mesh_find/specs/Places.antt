-- Where a mesh stands in the file, in the words of crate studio_rules.
use Rattle.std.specs.Prelude.{◌≡◌, true, List, [], ◌∷◌, ℕ, ◌+◌, ◌-◌, ◌*◌, ◌≤◌, length, drop, Result, Ok, Err}
use Rattle.std.proofs.Math.Option.{none, some}
use Rattle.std.proofs.Math.ListN.{get_elem?}
use Rattle.std.proofs.Math.Seq.{slice}
use Rattle.shared_words.specs.Bytes.{numbers}
use Rattle.shared_words.specs.Lists.{every}
use Rattle.shared_words.specs.declared.Refusal.{Refusal}
use Rattle.shared_words.specs.declared.Refusal.TheVariants.{NoSuchMesh}
use Rattle.shared_words.specs.Floats.{finite}
use Rattle.studio_rules.specs.OwnData.{count, corners}
use Rattle.studio_rules.specs.Layout.{Run, size, child, offset_of}
use Rattle.studio_rules.specs.Gives.{Mesh, pairs_of, filled_up}
use Rattle.studio_mesh_find.specs.declared.Elements.{Elements}
use Rattle.studio_mesh_find.specs.declared.Mapping.{Mapping}
use Rattle.studio_mesh_find.specs.declared.Object.{Object}
use Rattle.studio_mesh_find.specs.declared.Place.{Place}

-- the elements of own data that is a count word and so many times k bytes
pub record ElementsAre (k : ℕ) (own s : List ℕ) (r : Elements) : Type 0 where
  pub count-is : r.count ≡ count own
  pub are : drop 2 own ≡ slice r.at (r.at + k * r.count) s
  pub stay : r.at + k * r.count ≤ length s

-- the mapping of the mesh with these children: the pairs that its 4140 has
pub record MappingIs (kids : Run) (s : List ℕ) (r : Mapping) : Type 0 where
  pub given : ElementsAre 8 (child 0x4140 kids) s record { at = r.at; count = r.count }
  pub pairs_are : r.pairs ≡ pairs_of kids

-- a 4000 at `at`, of this own data and these children
pub record ObjectIs (at : ℕ) (own : List ℕ) (kids : Run) (r : Object) : Type 0 where
  pub name-size : r.size ≡ length own - 1
  pub mesh-at : r.mesh ≡ offset_of 0x4100 (at + (6 + length own)) kids
  pub ends_at : r.stop ≡ at + (6 + length own + size kids)

-- where the mesh m stands in the file s
pub record PlaceIs (s : List ℕ) (m : Mesh) (r : Place) : Type 0 where
  pub name-at : r.name ≡ m.name_at
  pub name-size : r.size ≡ m.name_length
  pub vertex-count : r.vertices.count ≡ m.vertex_count
  pub vertices_are : m.vertices ≡ numbers 4 (3 * r.vertices.count) (drop r.vertices.at s)
  pub vertices_stay : r.vertices.at + 12 * r.vertices.count ≤ length s
  pub vertices-finite : every finite m.vertices ≡ true
  pub face-count : r.faces.count ≡ m.face_count
  pub corners_are : m.corners ≡ corners r.faces.count (drop r.faces.at s)
  pub faces_stay : r.faces.at + 8 * r.faces.count ≤ length s
  pub pair_count_lem : r.mapping.pairs ≡ m.pair_count
  pub mapping_is : m.mapping ≡ filled_up (2 * r.mapping.pairs) (numbers 4 (2 * r.mapping.count) (drop r.mapping.at s))
  pub mapping_stays : r.mapping.at + 8 * r.mapping.count ≤ length s
  pub mapping_fits : r.mapping.count ≤ r.mapping.pairs
  pub pairs_fit_lem : r.mapping.pairs ≤ r.vertices.count
  pub mapping_finite : every finite (numbers 4 (2 * r.mapping.count) (drop r.mapping.at s)) ≡ true

-- what a viewer is told of it
abbrev pub place_numbers : Place → List ℕ
place_numbers r = r.name ∷ r.size ∷ r.vertices.count ∷ r.vertices.at ∷ r.faces.count ∷ r.faces.at ∷ r.mapping.count ∷ r.mapping.at ∷ []

-- the mesh of a number among the meshes of a file
abbrev pub FoundIs : List ℕ → List Mesh → ℕ → Result Place Refusal → Type 0
FoundIs s ms number (Ok r) = (m : Mesh) × (get_elem? ms number ≡ some m) × PlaceIs s m r
FoundIs s ms number (Err e) = (get_elem? ms number ≡ none) × (e ≡ NoSuchMesh (length ms))
