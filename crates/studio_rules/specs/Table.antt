-- The chunk table of docs/FORMAT.md, "at most one" and "at least one", as data. All that is said of one identifier is read
-- from here.
use Rattle.std.specs.Prelude.{ℕ, Bool, true, false, cond, List, [], ◌∷◌, eqb}
use Rattle.shared_words.specs.Lists.{among}

-- The column "Own data".
pub data Shape : Type 0 where
  -- so many bytes
  fixed : ℕ → Shape
  -- a name, with its zero
  name : Shape
  -- a word n, then n times so many bytes
  counted : ℕ → Shape
  -- so many bytes for each of the chunk around it: 4150, four for each face of its 4120
  each : ℕ → Shape
  -- a name, a word k, then k words
  named_words : Shape
  -- a name, then so many bytes
  named : ℕ → Shape

-- A row: its identifiers, the chunks under which they stand, their own data, and whether it ends in "+".
pub record Row : Type 0 where
  pub ids : List ℕ
  pub parents : List ℕ
  pub shape : Shape
  pub plus : Bool

-- a row that ends in "+", and one that does not
abbrev pub branch : List ℕ → List ℕ → Shape → Row
branch ids parents shape = record { ids = ids; parents = parents; shape = shape; plus = true }

abbrev pub leaf : List ℕ → List ℕ → Shape → Row
leaf ids parents shape = record { ids = ids; parents = parents; shape = shape; plus = false }

-- What 4D4D stands under is no chunk: a number beyond every identifier stands for the file.
abbrev pub the_file : ℕ
the_file = 0x1_0000

unfoldable pub rows : List Row
rows =
    branch (0x4D4D ∷ []) (the_file ∷ []) (fixed 0) ∷
    leaf (0x0002 ∷ []) (0x4D4D ∷ []) (fixed 4) ∷
    branch (0x3D3D ∷ []) (0x4D4D ∷ []) (fixed 0) ∷
    leaf (0x3D3E ∷ 0x1400 ∷ 0x1450 ∷ 0x1460 ∷ []) (0x3D3D ∷ []) (fixed 4) ∷
    leaf (0x1420 ∷ []) (0x3D3D ∷ []) (fixed 2) ∷
    leaf (0x1470 ∷ []) (0x3D3D ∷ []) (fixed 0) ∷
    branch (0x2100 ∷ []) (0x3D3D ∷ []) (fixed 0) ∷
    branch (0xAFFF ∷ []) (0x3D3D ∷ []) (fixed 0) ∷
    leaf (0xA000 ∷ []) (0xAFFF ∷ []) name ∷
    branch (0xA010 ∷ 0xA020 ∷ 0xA030 ∷ 0xA040 ∷ []) (0xAFFF ∷ []) (fixed 0) ∷
    leaf (0x0010 ∷ 0x0013 ∷ []) (0x2100 ∷ 0xA010 ∷ 0xA020 ∷ 0xA030 ∷ 0x4600 ∷ []) (fixed 12) ∷
    leaf (0x0011 ∷ 0x0012 ∷ []) (0x2100 ∷ 0xA010 ∷ 0xA020 ∷ 0xA030 ∷ 0x4600 ∷ []) (fixed 3) ∷
    leaf (0x0030 ∷ []) (0xA040 ∷ []) (fixed 2) ∷
    leaf (0x0031 ∷ []) (0xA040 ∷ []) (fixed 4) ∷
    branch (0x4000 ∷ []) (0x3D3D ∷ []) name ∷
    leaf (0x4010 ∷ 0x4012 ∷ 0x4013 ∷ 0x4015 ∷ 0x4017 ∷ []) (0x4000 ∷ []) (fixed 0) ∷
    branch (0x4100 ∷ []) (0x4000 ∷ []) (fixed 0) ∷
    leaf (0x4110 ∷ []) (0x4100 ∷ []) (counted 12) ∷
    branch (0x4120 ∷ []) (0x4100 ∷ []) (counted 8) ∷
    leaf (0x4130 ∷ []) (0x4120 ∷ []) named_words ∷
    leaf (0x4150 ∷ []) (0x4120 ∷ []) (each 4) ∷
    leaf (0x4140 ∷ []) (0x4100 ∷ []) (counted 8) ∷
    leaf (0x4160 ∷ []) (0x4100 ∷ []) (fixed 48) ∷
    leaf (0x4165 ∷ []) (0x4100 ∷ []) (fixed 1) ∷
    branch (0x4600 ∷ []) (0x4000 ∷ []) (fixed 12) ∷
    branch (0x4610 ∷ []) (0x4600 ∷ []) (fixed 20) ∷
    leaf (0x4620 ∷ []) (0x4600 ∷ []) (fixed 0) ∷
    leaf (0x4651 ∷ []) (0x4610 ∷ []) (fixed 0) ∷
    leaf (0x4653 ∷ []) (0x4610 ∷ []) name ∷
    leaf (0x4656 ∷ []) (0x4610 ∷ []) (fixed 4) ∷
    branch (0x4700 ∷ []) (0x4000 ∷ []) (fixed 32) ∷
    branch (0xB000 ∷ []) (0x4D4D ∷ []) (fixed 0) ∷
    leaf (0xB008 ∷ []) (0xB000 ∷ []) (fixed 8) ∷
    branch (0xB002 ∷ []) (0xB000 ∷ []) (fixed 0) ∷
    leaf (0xB010 ∷ []) (0xB002 ∷ []) (named 6) ∷ []

-- Identifiers taken together, among the children of a container.
pub record Group : Type 0 where
  pub ids : List ℕ
  pub container : ℕ

abbrev pub of : List ℕ → ℕ → Group
of ids container = record { ids = ids; container = container }

unfoldable pub at_most_one_ids : List Group
at_most_one_ids =
    of (0x0002 ∷ []) 0x4D4D ∷
    of (0x3D3D ∷ []) 0x4D4D ∷
    of (0xA000 ∷ []) 0xAFFF ∷
    of (0x4100 ∷ 0x4600 ∷ 0x4700 ∷ []) 0x4000 ∷
    of (0x4110 ∷ []) 0x4100 ∷
    of (0x4120 ∷ []) 0x4100 ∷
    of (0x4140 ∷ []) 0x4100 ∷
    of (0x4160 ∷ []) 0x4100 ∷
    of (0x4165 ∷ []) 0x4100 ∷
    of (0x4150 ∷ []) 0x4120 ∷
    of (0x4610 ∷ []) 0x4600 ∷
    of (0xB000 ∷ []) 0x4D4D ∷
    of (0xB008 ∷ []) 0xB000 ∷
    of (0xB010 ∷ []) 0xB002 ∷ []

unfoldable pub at_least_one_ids : List Group
at_least_one_ids =
    of (0x3D3D ∷ []) 0x4D4D ∷
    of (0xB010 ∷ []) 0xB002 ∷
    of (0xA000 ∷ []) 0xAFFF ∷ []

-- ---- reading the table

-- the row of an identifier; where it has none, a row with no identifier, under nothing
abbrev pub row_of : ℕ → List Row → Row
row_of x [] = leaf [] [] (fixed 0)
row_of x (r ∷ rs) = cond (among x r.ids) r (row_of x rs)

-- an identifier has a row; else it is unlisted
unfoldable pub listed : ℕ → Bool
listed x = among x (row_of x rows).ids

-- a chunk x may stand under p
unfoldable pub under : ℕ → ℕ → Bool
under p x = among p (row_of x rows).parents

unfoldable pub shape : ℕ → Shape
shape x = (row_of x rows).shape

-- the row ends in "+": children may follow
unfoldable pub plus : ℕ → Bool
plus x = (row_of x rows).plus

-- the groups of one container
abbrev pub groups_of : ℕ → List Group → List (List ℕ)
groups_of p [] = []
groups_of p (g ∷ gs) = cond (eqb p g.container) (g.ids ∷ groups_of p gs) (groups_of p gs)

unfoldable pub limits : ℕ → List (List ℕ)
limits p = groups_of p at_most_one_ids

unfoldable pub needs : ℕ → List (List ℕ)
needs p = groups_of p at_least_one_ids
