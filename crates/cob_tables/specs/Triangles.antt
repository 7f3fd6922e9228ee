-- The faces with three corners and no holes, by positions; and what the functions that pass over them promise.
use Rattle.std.specs.Prelude.{◌≡◌, ℕ, ◌+◌, ◌-◌, ◌≤◌, Option, Some, None, false, List, [], ◌∷◌, ◌++◌, length, drop}
use Rattle.shared_words.specs.Bytes.{packed}
use Rattle.shared_numbers.specs.Put.{Put}
use Rattle.cob_rules.specs.Mesh.{Face, corners_at, faces_at, triangles}
use Rattle.cob_mesh.specs.Laid.{Whole}
use Rattle.cob_tables.specs.declared.Triangle.{Triangle}

-- a face of three corners at a position
abbrev pub face_in : List ℕ → ℕ → Face
face_in s at = corners_at false 3 (drop at s)

-- that face, if there is one
abbrev pub face_given : List ℕ → Option ℕ → List Face
face_given s (Some at) = face_in s at ∷ []
face_given s None = []

-- the first of `left` faces from o on
pub record TriangleAt (s : List ℕ) (o left : ℕ) (r : Triangle) : Type 0 where
  pub is : triangles (faces_at left (drop o s)) ≡ face_given s r.corners ++ triangles (faces_at (left - 1) (drop r.next s))
  pub whole : Whole s r.next (left - 1)
  pub inside : (at : ℕ) → r.corners ≡ Some at → at + 24 ≤ length s

-- its corners, and room for them
pub record TriangleFits (s : List ℕ) (r : Triangle) (row : List ℕ) (to : ℕ) : Type 0 where
  pub inside : (at : ℕ) → r.corners ≡ Some at → at + 24 ≤ length s
  pub room : (at : ℕ) → r.corners ≡ Some at → to + 12 ≤ length row

pub record PutTriangle (s : List ℕ) (r : Triangle) (row : List ℕ) (to : ℕ) (row' : List ℕ) (to' : ℕ) : Type 0 where
  pub yes : (at : ℕ) → r.corners ≡ Some at → Put row to (packed 4 (face_in s at).corners) row' to'
  pub no : r.corners ≡ None → (row' ≡ row) × (to' ≡ to)
