-- Sets of sub-chunks as the bits of a number, and the sets that are combinations.
use Rattle.std.specs.Prelude.{ℕ, zero, suc, ◌+◌, ◌*◌, ◌/◌, ◌%◌, Bool, cond, Option, Some, None, List, [], ◌∷◌, eqb}
use Rattle.c4d_rules.specs.Kinds.{t_points, t_triangles, t_quadrangles, t_edges, t_polygon, t_light, t_camera, t_ground, t_sky, t_sphere, t_environment, t_hermite}
use Rattle.c4d_rules.specs.Combinations.{is_in}

-- of w identifiers, from one on, those that are there: the first is the lowest bit
abbrev pub bits_from : (ℕ → Bool) → ℕ → ℕ → ℕ
bits_from there id zero = 0
bits_from there id (suc w) = cond (there id) 1 0 + 2 * bits_from there (suc id) w

-- of the identifiers from 16 to 32
unfoldable pub bits : List ℕ → ℕ
bits ids = bits_from (is_in ids) 16 17

-- those that only their combinations may have: not bits 7, 8, 12, 15, 16
abbrev pub exclusive_in : ℕ → ℕ
exclusive_in n = n % 128 + n / 512 % 8 * 512 + n / 8192 % 4 * 8192

-- ---- the combinations, by all sets that make them

pub record Row : Type 0 where
  pub set : List ℕ
  pub combination : ℕ

abbrev row : List ℕ → ℕ → Row
row set combination = record { set = set; combination = combination }

unfoldable pub table : List Row
table =
    row (t_points ∷ []) 1 ∷
    row (t_points ∷ t_edges ∷ []) 1 ∷
    row (t_points ∷ t_triangles ∷ t_edges ∷ []) 1 ∷
    row (t_points ∷ t_quadrangles ∷ t_edges ∷ []) 1 ∷
    row (t_points ∷ t_triangles ∷ t_quadrangles ∷ t_edges ∷ []) 1 ∷
    row (t_polygon ∷ []) 2 ∷
    row (t_polygon ∷ t_points ∷ []) 2 ∷
    row (t_polygon ∷ t_hermite ∷ []) 2 ∷
    row (t_polygon ∷ t_points ∷ t_hermite ∷ []) 2 ∷
    row (t_light ∷ []) 3 ∷
    row (t_camera ∷ []) 4 ∷
    row (t_ground ∷ []) 5 ∷
    row (t_sky ∷ []) 6 ∷
    row (t_sphere ∷ t_points ∷ []) 7 ∷
    row (t_environment ∷ []) 8 ∷
    row [] 9 ∷ []

abbrev pub among : ℕ → List Row → ℕ
among n [] = 0
among n (r ∷ rs) = cond (eqb n (bits_from (is_in r.set) 16 17)) r.combination (among n rs)

-- 0 where it is none of them
unfoldable pub looked_up : ℕ → ℕ
looked_up n = among n table

-- a combination's number, of which 0 is none
abbrev pub numbered : ℕ → Option ℕ
numbered n = cond (eqb n 0) None (Some n)
