-- One mesh of an accepted file, and all of them: what the functions promise.
use Rattle.std.specs.Prelude.{◌≡◌, true, false, List, [], ◌∷◌, ℕ, ◌+◌, ◌*◌, ◌≤◌, ◌<◌, length}
use Rattle.shared_words.specs.Conditions.{accepted}
use Rattle.shared_words.specs.Effects.{filled}
use Rattle.shared_numbers.specs.Put.{Put}
use Rattle.cob_rules.specs.Kinds.{is_mesh}
use Rattle.cob_rules.specs.Layout.{kind, Layout}
use Rattle.cob_rules.specs.Walk.{verdict}
use Rattle.cob_chunk.specs.Chunks.{chunk_in}
use Rattle.cob_tables.specs.Asked.{Readable, body_in, Stands}
use Rattle.cob_meshes_rules.specs.Standing.{Standing, standing}
use Rattle.cob_meshes_rules.specs.Calls.{mesh_bytes}
use Rattle.cob_meshes.specs.declared.Numbers.{Numbers}

-- in the order in which they are told
abbrev pub numbers_of : Numbers → List ℕ
numbers_of m = m.name ∷ m.size ∷ m.position ∷ m.vertices ∷ m.floats ∷ m.faces ∷ m.given ∷ m.record ∷ []

-- the mesh of the chunk at an offset
abbrev pub mesh_here : List ℕ → ℕ → ℕ → ℕ → Standing
mesh_here s at next number = record { at = at; number = number; body = body_in s (at + 20) next }

-- a chunk, and room for its numbers in a row of n bytes where it is a mesh
pub record MeshAt (s : List ℕ) (at next number to n : ℕ) : Type 0 where
  pub header : at + 20 ≤ length s
  pub within : length s ≤ 1048576
  pub small : number < 4294967296
  pub stands : is_mesh (kind (chunk_in s at)) ≡ true → Stands s (at + 20) next
  pub room : is_mesh (kind (chunk_in s at)) ≡ true → to + 32 ≤ n

pub record PutMesh (s : List ℕ) (at next number : ℕ) (row : List ℕ) (to : ℕ) (row' : List ℕ) (to' : ℕ) : Type 0 where
  pub yes : is_mesh (kind (chunk_in s at)) ≡ true → Put row to (mesh_bytes.encode (mesh_here s at next number ∷ [])) row' to'
  pub no : is_mesh (kind (chunk_in s at)) ≡ false → (row' ≡ row) × (to' ≡ to)

-- ---- all of them

pub record Counts (s : List ℕ) (n : ℕ) : Type 0 where
  pub told : (l : Layout) → verdict s ≡ accepted l → n ≡ length (standing l)

pub record SomeRoom (s : List ℕ) (n : ℕ) : Type 0 where
  pub given : Readable s
  pub room : 32 * length (standing given.layout) ≤ n

pub record Fills (s row row' : List ℕ) : Type 0 where
  pub told : (l : Layout) → verdict s ≡ accepted l → row' ≡ filled (mesh_bytes.encode (standing l)) row
