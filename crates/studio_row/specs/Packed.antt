-- The table as numbers: how a row of crate studio_rules is packed into one, and the fields that code reads from it. (That these
-- say what the row says is proved in proofs/Facts.)
use Rattle.std.specs.Prelude.{◌≡◌, Bool, cond, List, [], ◌∷◌, ℕ, zero, suc, ◌+◌, ◌*◌, ◌/◌, ◌%◌, ◌^◌, ◌<◌, eqb}
use Rattle.shared_words.specs.Lists.{among, same}
use Rattle.studio_rules.specs.Table.{Row, Shape, fixed, name, counted, each, named_words, named, the_file, rows, row_of as table_row, limits}

-- ---- place and holds

-- the sets of chunks under which rows stand: the k-th is place k
unfoldable pub places : List (List ℕ)
places =
    (the_file ∷ []) ∷
    (0x4D4D ∷ []) ∷
    (0x3D3D ∷ []) ∷
    (0xAFFF ∷ []) ∷
    (0x2100 ∷ 0xA010 ∷ 0xA020 ∷ 0xA030 ∷ 0x4600 ∷ []) ∷
    (0xA040 ∷ []) ∷
    (0x4000 ∷ []) ∷
    (0x4100 ∷ []) ∷
    (0x4120 ∷ []) ∷
    (0x4600 ∷ []) ∷
    (0x4610 ∷ []) ∷
    (0xB000 ∷ []) ∷
    (0xB002 ∷ []) ∷ []

-- the number of a set among some, of which the first is place k
abbrev place_from : ℕ → List ℕ → List (List ℕ) → ℕ
place_from k parents [] = 0
place_from k parents (s ∷ ss) = cond (same parents s) k (place_from (k + 1) parents ss)

-- bit k is set where x is in place k
abbrev holds_from : ℕ → ℕ → List (List ℕ) → ℕ
holds_from k x [] = 0
holds_from k x (s ∷ ss) = cond (among x s) (2 ^ k) 0 + holds_from (k + 1) x ss

-- ---- slot

-- the number of x's group among some, of which the first is slot k; 5 for no group
abbrev slot_from : ℕ → ℕ → List (List ℕ) → ℕ
slot_from k x [] = 5
slot_from k x (g ∷ gs) = cond (among x g) k (slot_from (k + 1) x gs)

-- the groups are those of the container; of several, the first
abbrev slot_under : ℕ → List ℕ → ℕ
slot_under x [] = 5
slot_under x (p ∷ ps) = slot_from 0 x (limits p)

-- ---- own data

abbrev pub kind_of : Shape → ℕ
kind_of (fixed k) = 0
kind_of name = 1
kind_of (counted k) = 2
kind_of (each k) = 3
kind_of named_words = 4
kind_of (named k) = 5

abbrev pub size_of : Shape → ℕ
size_of (fixed k) = k
size_of name = 0
size_of (counted k) = k
size_of (each k) = k
size_of named_words = 0
size_of (named k) = k

-- ---- a row as one number: place (four bits), holds (sixteen, so that there is room for fifteen places), slot, kind, plus
-- (four each), size (eight)

abbrev pub packed : ℕ → Row → ℕ
packed x r =
    place_from 1 r.parents places + 2 ^ 4 * holds_from 1 x places + 2 ^ 20 * slot_under x r.parents +
    2 ^ 24 * kind_of r.shape + 2 ^ 28 * cond r.plus 1 0 + 2 ^ 32 * size_of r.shape

-- the packed row of an identifier, 0 where it has none
unfoldable pub row_of : ℕ → ℕ
row_of x = cond (among x (table_row x rows).ids) (packed x (table_row x rows)) 0

-- ---- the fields of a row

abbrev pub may_hold_in : ℕ → ℕ → Bool
may_hold_in parent row = eqb (parent / 16 / 2 ^ (row % 16) % 2) 1

abbrev pub slot_in : ℕ → ℕ
slot_in row = row / 2 ^ 20 % 16

abbrev pub kind_in : ℕ → ℕ
kind_in row = row / 2 ^ 24 % 16

abbrev pub plus_in : ℕ → Bool
plus_in row = eqb (row / 2 ^ 28 % 16) 1

-- own data of a fixed size, and no children: kind and plus are both 0
abbrev pub plain_in : ℕ → Bool
plain_in row = eqb (row / 2 ^ 24 % 256) 0

abbrev pub size_in : ℕ → ℕ
size_in row = row / 2 ^ 32 % 256

-- the slot of an identifier
abbrev pub slot_of : ℕ → ℕ
slot_of x = slot_in (row_of x)

-- the shape of a row's own data
abbrev pub shape_from : ℕ → ℕ → Shape
shape_from zero size = fixed size
shape_from (suc zero) size = name
shape_from (suc (suc zero)) size = counted size
shape_from (suc (suc (suc zero))) size = each size
shape_from (suc (suc (suc (suc zero)))) size = named_words
shape_from (suc (suc (suc (suc (suc k))))) size = named size

unfoldable pub shape_in : ℕ → Shape
shape_in row = shape_from (kind_in row) (size_in row)

pub record Slot (row r : ℕ) : Type 0 where
  pub is : r ≡ slot_in row
  pub small : r < 16

pub record Size (row r : ℕ) : Type 0 where
  pub is : r ≡ size_in row
  pub small : r < 256
