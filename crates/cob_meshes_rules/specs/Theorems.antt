-- What is proved of the meshes where they stand.
use Rattle.std.specs.Prelude.{◌≡◌, List, [], ◌∷◌, map, ℕ, ◌+◌, ◌*◌, ◌≤◌, length, take, drop}
use Rattle.std.proofs.Math.Option.{some}
use Rattle.std.proofs.Math.ListN.{get_elem?}
use Rattle.shared_words.specs.Bytes.{numbers}
use Rattle.shared_words.specs.Lists.{All}
use Rattle.cob_rules.specs.declared.Record.{Record}
use Rattle.cob_rules.specs.Kinds.{natural, string, plain}
use Rattle.cob_rules.specs.Mesh.{list_behind}
use Rattle.cob_rules.specs.Layout.{Layout}
use Rattle.cob_rules.specs.Rules.{Meets}
use Rattle.cob_rules.specs.Gives.{list, meshes}
use Rattle.cob_meshes_rules.specs.Standing.{Standing, mesh_of, standing, name_at, name_length, position_at, vertices_at}

-- They are the meshes that every other call is about, in the same order: so number i here is mesh i there.
abbrev pub SameMeshes : Type 0
SameMeshes = (l : Layout) → meshes l ≡ map mesh_of (standing l)

-- the record of that number in the list is that of its chunk
pub record InList (l : Layout) (m : Standing) : Type 0 where
  pub found : Record
  pub is : get_elem? (list l) m.number ≡ some found
  pub same-chunk : found.offset ≡ m.at

abbrev pub RecordsTold : Type 0
RecordsTold = (l : Layout) → All (InList l) (standing l)

-- What a viewer reads at the offsets that it is told, in the file s: the string behind the dupecount, what stands behind name and
-- axes, and the vertices that the tables give.
pub record ReadInPlace (s : List ℕ) (m : Standing) : Type 0 where
  pub name : take (name_length m) (drop (name_at m) s) ≡ take (name_length m) (drop 2 (list_behind (natural 2 ∷ []) m.body))
  pub position : take 48 (drop (position_at m) s) ≡ take 48 (list_behind (natural 2 ∷ string ∷ plain 48 ∷ []) m.body)
  pub vertices : (mesh_of m).vertices ≡ numbers 4 (3 * (mesh_of m).vertex_count) (drop (vertices_at m) s)
  -- and all of them lie in it
  pub stays : vertices_at m + 12 * (mesh_of m).vertex_count ≤ length s

abbrev pub InPlace : Type 0
InPlace = (s : List ℕ) (l : Layout) → Meets s l → All (ReadInPlace s) (standing l)
