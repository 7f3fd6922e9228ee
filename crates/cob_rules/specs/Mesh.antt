-- What stands in the body of a PolH: vertices, texture vertices, faces and holes; and the rules about them.
use Rattle.std.specs.Prelude.{ℕ, zero, suc, ◌*◌, Bool, true, false, not, ◌&&◌, cond, List, [], ◌∷◌, ◌++◌, eqb, ltb, length, take, drop}
use Rattle.std.proofs.Math.Option.{get_or}
use Rattle.shared_words.specs.Floats.{finite}
use Rattle.shared_words.specs.Bytes.{value, numbers}
use Rattle.shared_words.specs.Lists.{every}
use Rattle.cob_rules.specs.Kinds.{Part, group, vertices, textures}
use Rattle.cob_rules.specs.Body.{hole, face, behind_all}

-- the list behind some parts: its count, and what follows the count
abbrev pub list_behind : List Part → List ℕ → List ℕ
list_behind ps body = get_or (behind_all ps body) []

abbrev pub count_of : List ℕ → ℕ
count_of s = value (take 4 s)

abbrev pub vertex_list : List ℕ → List ℕ
vertex_list = list_behind group

abbrev pub texture_list : List ℕ → List ℕ
texture_list = list_behind (group ++ (vertices ∷ []))

abbrev pub face_list : List ℕ → List ℕ
face_list = list_behind (group ++ (vertices ∷ textures ∷ []))

-- each float as its 32 bits
abbrev pub vertex_numbers : List ℕ → List ℕ
vertex_numbers body = numbers 4 (3 * count_of (vertex_list body)) (drop 4 (vertex_list body))

abbrev pub texture_numbers : List ℕ → List ℕ
texture_numbers body = numbers 4 (2 * count_of (texture_list body)) (drop 4 (texture_list body))

-- ---- faces and holes

-- a face or a hole: for each corner its index of a vertex, and of a texture vertex
pub record Face : Type 0 where
  pub is_hole : Bool
  pub corners : List ℕ
  pub textures : List ℕ

-- the first long of each of n pairs
abbrev pub firsts : ℕ → List ℕ → List ℕ
firsts zero s = []
firsts (suc n) s = value (take 4 s) ∷ firsts n (drop 8 s)

-- n corners
abbrev pub corners_at : Bool → ℕ → List ℕ → Face
corners_at h n s = record { is_hole = h; corners = firsts n s; textures = firsts n (drop 4 s) }

abbrev pub face_at : List ℕ → Face
face_at [] = corners_at false 0 []
face_at (flags ∷ s) = corners_at (hole flags) (value (take 2 s)) (drop (cond (hole flags) 2 4) s)

abbrev pub faces_at : ℕ → List ℕ → List Face
faces_at zero s = []
faces_at (suc n) s = face_at s ∷ faces_at n (get_or (face s) [])

abbrev pub faces_of : List ℕ → List Face
faces_of body = faces_at (count_of (face_list body)) (drop 4 (face_list body))

-- ---- the rules

abbrev pub all_finite : List ℕ → Bool
all_finite body = every finite (vertex_numbers body) && every finite (texture_numbers body)

-- Indices are signed and must be from 0 to one below their count. A negative one, read without its sign, is above
-- every count, since no count is negative.
abbrev pub corners_below : ℕ → ℕ → Face → Bool
corners_below n t f = every (λ i. ltb i n) f.corners && every (λ i. ltb i t) f.textures

-- a hole has a face before it
abbrev pub face_first : List Face → Bool
face_first [] = true
face_first (f ∷ fs) = not f.is_hole

abbrev pub all_below : List ℕ → Bool
all_below body = every (corners_below (count_of (vertex_list body)) (count_of (texture_list body))) (faces_of body)

-- ---- the table

-- A hole is one in the most recently read face: no hole stands right after a face that has none.
abbrev pub triangle : Face → Bool
triangle f = not f.is_hole && eqb (length f.corners) 3

-- the faces with three corners and no holes
abbrev pub triangles : List Face → List Face
triangles [] = []
triangles (f ∷ fs) = cond (triangle f && face_first fs) (f ∷ []) [] ++ triangles fs

abbrev pub corners_of : List Face → List ℕ
corners_of [] = []
corners_of (f ∷ fs) = f.corners ++ corners_of fs
