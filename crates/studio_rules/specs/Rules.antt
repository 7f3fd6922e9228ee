-- The chunk rules of documents 01 and 02, each under its own name; and what it is for a file to meet them.
use Rattle.std.specs.Prelude.{◌≡◌, ℕ, ◌+◌, ◌≤◌, Bool, true, false, not, ◌&&◌, ◌||◌, cond, List, [], ◌∷◌, eqb, ltb, leb, length}
use Rattle.shared_words.specs.Bytes.{value}
use Rattle.shared_words.specs.Lists.{every, among}
use Rattle.shared_words.specs.Refusals.{limit}
use Rattle.studio_rules.specs.Table.{the_file, listed, under, shape, plus, limits, needs}
use Rattle.shared_words.specs.Floats.{finite}
use Rattle.studio_rules.specs.OwnData.{count, own_size, name_fits, vertex_numbers, mapping_numbers, face_corners, face_numbers, father, root}
use Rattle.studio_rules.specs.Layout.{Run, end, skip, known, figure, bytes, identifiers, child}

-- how many of some identifiers are in a group
abbrev pub tally : List ℕ → List ℕ → ℕ
tally g [] = 0
tally g (x ∷ xs) = cond (among x g) 1 0 + tally g xs

-- The chunk around: its identifier and its own data; its order, which is how many chunks of its identifier stand before it
-- in its own run; and the version of the file.
pub record Parent : Type 0 where
  pub id : ℕ
  pub own : List ℕ
  pub order : ℕ
  pub version : ℕ

-- what stands in a file of this version
abbrev pub file : ℕ → Parent
file version = record { id = the_file; own = []; order = 0; version = version }

-- what stands in a chunk of this identifier and own data, which itself stands in p, behind children with the identifiers
-- `seen`
abbrev pub inside : Parent → List ℕ → ℕ → List ℕ → Parent
inside p seen id own = record { id = id; own = own; order = tally (id ∷ []) seen; version = p.version }

-- a rule that speaks of one identifier only
abbrev pub only : ℕ → ℕ → Bool → Bool
only x id holds = cond (eqb id x) holds true

-- ---- the rules of a chunk and its own data, which are judged where it is met

-- in the chunk around, with an identifier and own data
abbrev pub OwnRule : Type 0
OwnRule = Parent → ℕ → List ℕ → Bool

-- it stands under a chunk under which its row allows it
abbrev pub is_in_place : OwnRule
is_in_place p id own = under p.id id

-- at most one of each group of a container, where it holds children of these identifiers
abbrev pub few : ℕ → List ℕ → Bool
few container ids = every (λ g. leb (tally g ids) 1) (limits container)

-- with those before it, it is not the second of a group
abbrev pub not_twice : Parent → List ℕ → ℕ → Bool
not_twice p seen id = few p.id (id ∷ seen)

-- its name fits the label
abbrev pub names_fit : OwnRule
names_fit p id own = name_fits (shape id) own

-- own data is neither too long nor too short for its row
abbrev pub own_data_exact : OwnRule
own_data_exact p id own = eqb (own_size (shape id) p.own own) (length own)

-- floats of 4110 and 4140 are neither infinite nor not-a-number
abbrev pub numbers_finite : OwnRule
numbers_finite p id own = only 0x4110 id (every finite (vertex_numbers own)) && only 0x4140 id (every finite (mapping_numbers own))

-- each number is below n
abbrev pub all_below : ℕ → List ℕ → Bool
all_below n = every (λ x. ltb x n)

-- the entries of a 4130 are below f, the count word of its 4120
abbrev pub face_numbers_below : OwnRule
face_numbers_below p id own = only 0x4130 id (all_below (count p.own) (face_numbers own))

-- the father of a part, which the B010 of a B002 tells, is an earlier B002 by its order, or there is none
abbrev pub father_earlier : OwnRule
father_earlier p id own = only 0xB010 id (eqb (father own) root || ltb (father own) p.order)

-- ---- the rules of a chunk's children, which are judged at its end

-- q is the chunk, as its children see it
abbrev pub ChildrenRule : Type 0
ChildrenRule = Parent → Run → Bool

-- a child may stand only in a chunk whose row ends in "+"
abbrev pub no_child : Run → Bool
no_child end = true
no_child (skip id body rest) = false
no_child (known id own kids rest) = false

abbrev pub children_in_plus : ChildrenRule
children_in_plus q kids = plus q.id || no_child kids

-- at least one of each group of a container
abbrev pub none_missing : ChildrenRule
none_missing q kids = every (λ g. leb 1 (tally g (identifiers kids))) (needs q.id)

-- of a mesh: the corners of its 4120 are below n, the count word of its 4110
abbrev pub corners_below : ChildrenRule
corners_below q kids = only 0x4100 q.id (all_below (count (child 0x4110 kids)) (face_corners (child 0x4120 kids)))

-- m mapping pairs for n vertices: m is n, in a file of version 3 or more; in an older one m may be less
abbrev pub as_many_pairs : ℕ → Bool
as_many_pairs version = leb 3 version

abbrev pub pairs_fit : ℕ → ℕ → ℕ → Bool
pairs_fit version m n = cond (as_many_pairs version) (eqb m n) (leb m n)

-- of a mesh: where a 4140 stands, its m fits n
abbrev pub mapping_matches : ChildrenRule
mapping_matches q kids =
    only 0x4100 q.id (not (among 0x4140 (identifiers kids)) || pairs_fit q.version (count (child 0x4140 kids)) (count (child 0x4110 kids)))

-- ---- what meets them

-- a skipped chunk has a 2-byte identifier that is in no row
abbrev pub unlisted : ℕ → Bool
unlisted id = ltb id 0x1_0000 && not (listed id)

-- ALL RULES OF ONE KNOWN CHUNK AND ITS OWN DATA, in the chunk around p, behind children with the identifiers `seen`
pub record Own (p : Parent) (seen : List ℕ) (id : ℕ) (own : List ℕ) : Type 0 where
  pub in_place : is_in_place p id own ≡ true
  pub not_twice_lem : not_twice p seen id ≡ true
  pub names_fit_lem : names_fit p id own ≡ true
  pub own_data_exact_lem : own_data_exact p id own ≡ true
  pub numbers-finite : numbers_finite p id own ≡ true
  pub face-numbers-below : face_numbers_below p id own ≡ true
  pub father_earlier_lem : father_earlier p id own ≡ true

-- ALL RULES OF THE CHILDREN of one known chunk q
pub record Children (q : Parent) (kids : Run) : Type 0 where
  pub in_plus : children_in_plus q kids ≡ true
  pub none-missing : none_missing q kids ≡ true
  pub corners-below : corners_below q kids ≡ true
  pub mapping_matches_lem : mapping_matches q kids ≡ true

-- a run in p behind children with the identifiers `seen`: every known chunk of it is lawful, at any depth, and every
-- skipped one is unlisted
abbrev pub Obeys : Parent → List ℕ → Run → Type 0
Obeys p seen end = Unit
Obeys p seen (skip id body rest) = (unlisted id ≡ true) × Obeys p seen rest
Obeys p seen (known id own kids rest) =
    Own p seen id own × Children (inside p seen id own) kids × Obeys (inside p seen id own) [] kids × Obeys p (id ∷ seen) rest

-- the version of a file, by the children of its 4D4D: own data of its 0002, and 0 where there is none
abbrev pub version : Run → ℕ
version kids = value (child 0x0002 kids)

-- THE FILE s MEETS THE CHUNK RULES, and the children of its 4D4D are `kids`
pub record Meets (s : List ℕ) (kids : Run) : Type 0 where
  -- one chunk 4D4D; each length counts its chunk's bytes, so that each run fills its parent exactly
  pub is : bytes (figure kids) ≡ s
  pub within-limit : length s ≤ limit
  pub chunks : Obeys (file (version kids)) [] (figure kids)
