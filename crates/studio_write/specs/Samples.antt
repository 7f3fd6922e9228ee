-- Worked cases of the writer, as one list under one statement: the triangle of docs/FORMAT.md, and of several faults which is
-- answered.
use Rattle.shared_words.specs.declared.Refusal.{Refusal}
use Rattle.std.specs.Prelude.{◌≡◌, ℕ, List, [], ◌∷◌, ◌++◌, map, replicate, Result, Ok, Err}
use Rattle.shared_words.specs.Refusals.{number_of, place_of}
use Rattle.shared_words.specs.Floats.{float}
use Rattle.shared_words.specs.Effects.{leaving}
use Rattle.studio_rules.specs.Samples.{triangle, one}
use Rattle.studio_write.specs.Write.{write_call}

-- an answer as the paper writes it: a refusal's number and place, or the size
pub data Shown : Type 0 where
  no : ℕ → ℕ → Shown
  size : ℕ → Shown

abbrev pub shown : Result ℕ Refusal → Shown
shown (Err r) = no (number_of r) (place_of r)
shown (Ok n) = size n

-- a call: a name, floats by their bits, corners, and how many bytes the buffer has
pub record Case : Type 0 where
  pub name : List ℕ
  pub vertices : List ℕ
  pub corners : List ℕ
  pub room : ℕ
  pub answer : Shown

abbrev pub gives : List ℕ → List ℕ → List ℕ → ℕ → Shown → Case
gives name vertices corners room answer = record { name = name; vertices = vertices; corners = corners; room = room; answer = answer }

-- infinite, not a number, and the largest number of an f32
abbrev pub infinite : ℕ
infinite = 0x7F80_0000

abbrev pub not_a_number : ℕ
not_a_number = 0x7FC0_0000

abbrev pub largest : ℕ
largest = 0x7F7F_FFFF

-- the vertices of the triangle
abbrev pub points : List ℕ
points = 0 ∷ 0 ∷ 0 ∷ one ∷ 0 ∷ 0 ∷ 0 ∷ one ∷ 0 ∷ []

abbrev pub cases : List Case
cases =
    -- nothing but the zero of the name
    gives [] [] [] 41 (size 41) ∷
    -- 9 before 24, which comes before 13: the first bad byte, or 63
    gives (0x41 ∷ 9 ∷ 0 ∷ []) (0 ∷ []) [] 0 (no 9 2) ∷
    gives (0x41 ∷ 0x7E ∷ 0x7F ∷ []) (0 ∷ []) [] 0 (no 24 2) ∷
    gives (replicate 64 0x41 ++ (9 ∷ [])) (0 ∷ []) [] 0 (no 24 63) ∷
    -- 13: the floats first; the corners before 11
    gives [] (0 ∷ []) (0 ∷ 0 ∷ []) 0 (no 13 1) ∷
    gives [] (not_a_number ∷ 0 ∷ 0 ∷ []) (0 ∷ 0 ∷ []) 0 (no 13 2) ∷
    -- 11 before 12, at the first of two
    gives [] (0 ∷ infinite ∷ not_a_number ∷ []) (1 ∷ 1 ∷ 1 ∷ []) 0 (no 11 1) ∷
    -- 12 before 15; a corner that is the vertex count; no vertices at all
    gives [] (largest ∷ 0 ∷ 0 ∷ []) (0 ∷ 0 ∷ 1 ∷ []) 0 (no 12 2) ∷
    gives [] [] (0 ∷ 0 ∷ 0 ∷ []) 0 (no 12 0) ∷
    -- 15: the triangle with one byte too few
    gives (0x41 ∷ []) points (0 ∷ 1 ∷ 2 ∷ []) 85 (no 15 86) ∷ []

abbrev pub answered : Case → Shown
answered c = shown (write_call c.name (map float c.vertices) c.corners (replicate c.room 0)).answer

pub record Samples : Type 0 where
  pub answers : map answered cases ≡ map (λ c. c.answer) cases
  -- the triangle, into a buffer of three bytes more
  pub written : write_call (0x41 ∷ []) (map float points) (0 ∷ 1 ∷ 2 ∷ []) (replicate 89 7) ≡ leaving (Ok 86) (triangle ++ (7 ∷ 7 ∷ 7 ∷ []))
