-- The body of a PolH by positions, as the code steps through it; and what its functions promise.
use Rattle.std.specs.Prelude.{◌≡◌, ℕ, ◌+◌, ◌*◌, ◌<◌, ◌≤◌, Bool, ◌&&◌, cond, Result, Ok, Err, List, [], ltb, length, drop}
use Rattle.std.proofs.Math.Option.{some}
use Rattle.shared_words.specs.Lists.{every}
use Rattle.cob_rules.specs.Body.{face, face_run}
use Rattle.cob_rules.specs.Mesh.{count_of, vertex_list, texture_list, face_list, Face, firsts, corners_at, face_at, corners_below}
use Rattle.cob_mesh.specs.declared.Lists.{Lists}
use Rattle.cob_mesh.specs.declared.Corners.{Corners}
use Rattle.cob_mesh.specs.declared.Fault.{Fault}

-- so many faces stand from a position on, up to the end
pub record Whole (s : List ℕ) (at count : ℕ) : Type 0 where
  pub run : face_run count (drop at s) ≡ some []
  pub within : at ≤ length s

-- where the lists of a body stand, and that they are whole
pub record Laid (body : List ℕ) (l : Lists) : Type 0 where
  pub vertices-at : vertex_list body ≡ drop l.vertices body
  pub vertices-whole : l.vertices + 4 + 12 * count_of (drop l.vertices body) ≤ length body
  pub textures-at : texture_list body ≡ drop l.textures body
  pub textures-whole : l.textures + 4 + 8 * count_of (drop l.textures body) ≤ length body
  pub faces-at : face_list body ≡ drop l.faces body
  pub faces-whole : Whole body (l.faces + 4) (count_of (drop l.faces body))

-- the face at a position, and where the next one stands
pub record FaceAt (s : List ℕ) (at : ℕ) (r : Corners) : Type 0 where
  pub is : face_at (drop at s) ≡ corners_at r.hole r.count (drop r.at s)
  pub next : face (drop at s) ≡ some (drop (r.at + 8 * r.count) s)
  pub whole : r.at + 8 * r.count ≤ length s
  pub later : at < r.at

-- the first n corners of s are below the counts of vertices v and of texture vertices t
abbrev pub all_corners : ℕ → ℕ → ℕ → List ℕ → Bool
all_corners v t n s = every (λ i. ltb i v) (firsts n s) && every (λ i. ltb i t) (firsts n (drop 4 s))

abbrev pub faces_below : ℕ → ℕ → List Face → Bool
faces_below v t fs = every (corners_below v t) fs

-- by whether floats are finite and indices allowed
abbrev pub judged : Bool → Bool → Result Unit Fault
judged finite allowed = cond finite (cond allowed (Ok tt) (Err Fault.Index)) (Err Fault.Number)
