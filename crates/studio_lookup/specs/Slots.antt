-- The table of rows by one look-up: 128 numbers, the slots. A listed identifier stands in the slot of its place, and no two
-- share one.
use Rattle.std.specs.Prelude.{Bool, cond, List, [], ◌∷◌, ◌++◌, ℕ, zero, suc, ◌+◌, ◌*◌, ◌/◌, ◌%◌, ◌^◌, eqb, get_or}
use Rattle.studio_rules.specs.Table.{Row, rows}
use Rattle.studio_row.specs.Packed.{row_of}

-- the place of an identifier, which has two bytes
abbrev pub place : ℕ → ℕ
place x = x % 2 ^ 16 * 4701 / 2 ^ 8 % 2 ^ 7

-- a slot: a row, and below it the identifier that has it; or the identifier of none
abbrev pub slot_for : ℕ → ℕ
slot_for x = row_of x * 2 ^ 20 + x

abbrev pub free : ℕ
free = 0xF_FFFF

abbrev all_ids : List Row → List ℕ
all_ids [] = []
all_ids (r ∷ rs) = r.ids ++ all_ids rs

-- what stands at place k, of these identifiers
abbrev stands_at : ℕ → List ℕ → ℕ
stands_at k [] = free
stands_at k (x ∷ xs) = cond (eqb (place x) k) (slot_for x) (stands_at k xs)

-- n slots from place k on
abbrev slots_from : ℕ → ℕ → List ℕ
slots_from k zero = []
slots_from k (suc n) = stands_at k (all_ids rows) ∷ slots_from (suc k) n

unfoldable pub slots : List ℕ
slots = slots_from 0 128

-- the slot in which an identifier stands if it is listed
abbrev pub slot_at : ℕ → ℕ
slot_at x = get_or slots (place x) 0

-- ---- what a slot tells

abbrev pub id_in : ℕ → ℕ → Bool
id_in s x = eqb (s % 2 ^ 20) x

abbrev pub row_in : ℕ → ℕ
row_in s = s / 2 ^ 20

-- the row that a slot has for an identifier, 0 where it is another's
abbrev pub found : ℕ → ℕ → ℕ
found s x = cond (id_in s x) (row_in s) 0
