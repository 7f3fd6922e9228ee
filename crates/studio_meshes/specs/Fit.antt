-- Meshes for which a row has room.
use Rattle.std.specs.Prelude.{List, [], ◌∷◌, ℕ, ◌+◌, ◌-◌, ◌≤◌, ◌<◌, ◌^◌, length}
use Rattle.shared_words.specs.Lists.{All}
use Rattle.studio_rules.specs.Layout.{Run, known}
use Rattle.studio_rules.specs.Rules.{Parent}
use Rattle.studio_meshes_rules.specs.Standing.{Standing, mesh_in, standing_of, standing}
use Rattle.studio_child.specs.Runs.{Spans}
use Rattle.studio_mesh_find.specs.Runs.{ObjectsAt}
use Rattle.studio_mesh_find.specs.declared.Object.{Object}
use Rattle.studio_mesh_find.specs.declared.Place.{Place}
use Rattle.studio_mesh_find.specs.Places.{ObjectIs, PlaceIs, place_numbers}

-- each fits in four bytes
abbrev pub Small : List ℕ → Type 0
Small ns = All (λ n. n < 2 ^ 32) ns

-- the meshes in a 4000 at `at`, of this own data and these children: one, or none
abbrev pub held_in : ℕ → List ℕ → Run → List Standing
held_in at own kids = standing_of (at + (6 + length own)) (at + 6) (length own - 1) kids

-- place is where a mesh stands, and a row of n bytes has room for the bytes of it, from `at` on
pub record Placed (s : List ℕ) (place : Place) (bytes : List Standing → List ℕ) (at n : ℕ) : Type 0 where
  pub mesh : Standing
  pub is : PlaceIs s (mesh_in mesh) place
  pub small : Small (place_numbers place)
  pub room : at + length (bytes (mesh ∷ [])) ≤ n

-- the object at `at` is o, and a row of n bytes has room for the bytes of what it holds, from `next` on
abbrev pub RoomFor : List ℕ → ℕ → Object → (List Standing → List ℕ) → ℕ → ℕ → Type 0
RoomFor s at o bytes next n =
    (p : Parent) × (own : List ℕ) × (kids : Run) × (rest : Run) × (stop : ℕ) × Spans p (known 0x4000 own kids rest) s at stop × ObjectIs at own kids o ×
    (next + length (bytes (held_in at own kids)) ≤ n)

abbrev pub SomeObjectsAt : List ℕ → ℕ → ℕ → Type 0
SomeObjectsAt s from stop = (kids : Run) × ObjectsAt s kids from stop

-- the objects of the figure stand from `from` to `stop`, and its meshes are not more than `room`
abbrev pub Fit : List ℕ → Run → ℕ → ℕ → ℕ → Type 0
Fit s kids from stop room = ObjectsAt s kids from stop × (length (standing kids) ≤ room)

-- and a row of n bytes has room for the bytes of them
abbrev pub Room : List ℕ → Run → ℕ → ℕ → (List Standing → List ℕ) → ℕ → Type 0
Room s kids from stop bytes n = ObjectsAt s kids from stop × (length (bytes (standing kids)) ≤ n)

abbrev pub SomeRoom : List ℕ → ℕ → ℕ → (List Standing → List ℕ) → ℕ → Type 0
SomeRoom s from stop bytes n = (kids : Run) × Room s kids from stop bytes n
