-- The rules of Q-4, each under its own name; and what it is for a file to meet them.
use Rattle.std.specs.Prelude.{◌≡◌, ℕ, ◌≤◌, Bool, true, false, not, ◌&&◌, ◌||◌, cond, List, [], ◌∷◌, eqb, length}
use Rattle.shared_words.specs.Refusals.{limit}
use Rattle.shared_words.specs.Bytes.{minus_one, negative}
use Rattle.shared_flat.specs.Flat.{Obeys}
use Rattle.cob_rules.specs.Kinds.{is_end, is_mesh, tells_end}
use Rattle.cob_rules.specs.Body.{exact}
use Rattle.cob_rules.specs.Mesh.{all_finite, face_first, faces_of, all_below}
use Rattle.cob_rules.specs.Layout.{Chunk, kind, identifier, parent, size_field, Layout, bytes}

-- ---- the rules of one chunk

-- "A size of -1 is allowed for END, Grou and PolH ...; every other negative size is refused."
abbrev pub size_allowed : Chunk → Bool
size_allowed c = not (negative 4 (size_field c)) || (eqb (size_field c) minus_one && tells_end (kind c))

-- any other size equals the body
abbrev pub size_matches : Chunk → Bool
size_matches c = negative 4 (size_field c) || eqb (size_field c) (length c.body)

-- its parts fit and fill it: no negative count, string length or dupecount, and no byte left
abbrev pub body_exact : Chunk → Bool
body_exact c = exact (kind c) c.body

-- a rule that speaks of a PolH only
abbrev pub of_mesh : Chunk → Bool → Bool
of_mesh c holds = cond (is_mesh (kind c)) holds true

-- floats of either vertex list are neither infinite nor not-a-number
abbrev pub numbers_finite : Chunk → Bool
numbers_finite c = of_mesh c (all_finite c.body)

-- no hole stands before any face
abbrev pub holes_in_faces : Chunk → Bool
holes_in_faces c = of_mesh c (face_first (faces_of c.body))

-- vertex and texture indices are from 0 to one below their count
abbrev pub indices_below : Chunk → Bool
indices_below c = of_mesh c (all_below c.body)

pub record Lawful (c : Chunk) : Type 0 where
  pub header-whole : length c.head ≡ 20
  pub size_allowed_lem : size_allowed c ≡ true
  pub size_matches_lem : size_matches c ≡ true
  pub body-exact : body_exact c ≡ true
  pub numbers-finite : numbers_finite c ≡ true
  pub holes_in_faces_lem : holes_in_faces c ≡ true
  pub indices-below : indices_below c ≡ true

-- ---- owners

-- some chunk has the identifier x
abbrev pub used : ℕ → List Chunk → Bool
used x [] = false
used x (c ∷ cs) = eqb (identifier c) x || used x cs

-- "identifiers are not 0 and not used twice": after the chunks `seen`. (Only compared, so that their sign does not matter.)
abbrev pub not_zero : Chunk → Bool
not_zero c = not (eqb (identifier c) 0)

abbrev pub not_used : List Chunk → Chunk → Bool
not_used seen c = not (used (identifier c) seen)

-- "A parent is 0 or the identifier of an earlier chunk"
abbrev pub parent_earlier : List Chunk → Chunk → Bool
parent_earlier seen c = eqb (parent c) 0 || used (parent c) seen

-- the three, of listed and unlisted chunks alike
abbrev pub owner_known : List Chunk → Chunk → Bool
owner_known seen c = (not_zero c && not_used seen c) && parent_earlier seen c

-- ---- what meets them

-- a chunk before END, after the chunks `seen`, of which the nearest comes first. (END's identifier and parent are not
-- looked at.)
pub record Placed (seen : List Chunk) (c : Chunk) : Type 0 where
  pub lawful : Lawful c
  pub not_end : is_end (kind c) ≡ false
  pub owner_known_lem : owner_known seen c ≡ true

abbrev pub remember : List Chunk → Chunk → List Chunk
remember seen c = c ∷ seen

abbrev pub AllPlaced : List Chunk → List Chunk → Type 0
AllPlaced = Obeys remember Placed

-- THE FILE s MEETS THE RULES, with the layout l
pub record Meets (s : List ℕ) (l : Layout) : Type 0 where
  pub is : bytes l ≡ s
  pub within-limit : length s ≤ limit
  pub chunks : AllPlaced [] l.chunks
  pub last : Lawful l.last
  -- END is last, and the file ends with it
  pub ends : is_end (kind l.last) ≡ true
