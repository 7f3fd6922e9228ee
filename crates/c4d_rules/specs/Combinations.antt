-- The nine combinations of section 4.3 as data, and the one that an object's sub-chunks make, by presence alone.
use Rattle.std.specs.Prelude.{ℕ, ◌+◌, Bool, true, false, ◌&&◌, ◌||◌, not, cond, List, [], ◌∷◌, eqb}
use Rattle.shared_words.specs.Lists.{every, among}
use Rattle.c4d_rules.specs.Kinds.{t_points, t_triangles, t_quadrangles, t_edges, t_polygon, t_light, t_camera, t_texture, t_ground, t_sky, t_sphere, t_environment}
use Rattle.c4d_rules.specs.Kinds.{t_hermite, exclusive, parts}

pub data Part : Type 0 where
  required : ℕ → Part
  optional : ℕ → Part
  -- required when one of these is used
  required_with : ℕ → List ℕ → Part

abbrev pub Combination : Type 0
Combination = List Part

-- (T_HERMITE and the number of points are not judged further: "by presence alone: T_HERMITE is optional, T_EDGES too without
-- faces".)
abbrev pub combinations : List Combination
combinations =
    (required t_points ∷ optional t_triangles ∷ optional t_quadrangles ∷ required_with t_edges (t_triangles ∷ t_quadrangles ∷ []) ∷ []) ∷
    (required t_polygon ∷ optional t_points ∷ optional t_hermite ∷ []) ∷
    (required t_light ∷ []) ∷
    (required t_camera ∷ []) ∷
    (required t_ground ∷ []) ∷
    (required t_sky ∷ []) ∷
    (required t_sphere ∷ required t_points ∷ []) ∷
    (required t_environment ∷ []) ∷
    [] ∷ []

-- ---- of the sub-chunks that are there, told by a test

abbrev pub identifier_of : Part → ℕ
identifier_of (required id) = id
identifier_of (optional id) = id
identifier_of (required_with id others) = id

abbrev pub members : Combination → List ℕ
members [] = []
members (p ∷ ps) = identifier_of p ∷ members ps

abbrev pub any_there : (ℕ → Bool) → List ℕ → Bool
any_there there [] = false
any_there there (x ∷ xs) = there x || any_there there xs

abbrev pub part_there : (ℕ → Bool) → Part → Bool
part_there there (required id) = there id
part_there there (optional id) = true
part_there there (required_with id others) = not (any_there there others) || there id

abbrev pub parts_there : (ℕ → Bool) → Combination → Bool
parts_there there [] = true
parts_there there (p ∷ ps) = part_there there p && parts_there there ps

-- "These combinations cannot be mixed": what it requires is there, and nothing that only other combinations may have
unfoldable pub holds : Combination → (ℕ → Bool) → Bool
holds c there = parts_there there c && every (λ id. not (there id) || among id (members c)) exclusive

-- the number of the first that holds, counted from n; 0 where none does
abbrev pub first : ℕ → List Combination → (ℕ → Bool) → ℕ
first n [] there = 0
first n (c ∷ cs) there = cond (holds c there) n (first (n + 1) cs there)

-- "1 to 9, the first that holds"
unfoldable pub combination : (ℕ → Bool) → ℕ
combination there = first 1 combinations there

-- ---- of the identifiers of an object's sub-chunks

abbrev pub is_in : List ℕ → ℕ → Bool
is_in ids id = among id ids

-- "T_TEXTURE is the only subchunk which can be used several times for an object."
abbrev pub may_repeat : ℕ → Bool
may_repeat id = eqb id t_texture || not (among id parts)

unfoldable pub once_each : List ℕ → Bool
once_each [] = true
once_each (id ∷ ids) = (may_repeat id || not (among id ids)) && once_each ids

-- one of the nine holds, and only textures (and what is unknown) are repeated
unfoldable pub combined : List ℕ → Bool
combined ids = not (eqb (combination (is_in ids)) 0) && once_each ids
