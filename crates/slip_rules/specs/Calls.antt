-- What the two calls answer and leave in the lent rows, for every slip, row and names.
use Rattle.std.specs.Prelude.{ℕ, zero, suc, ◌+◌, ◌*◌, ◌/◌, ◌%◌, Bool, false, not, cond, List, [], ◌∷◌, eqb, ltb, leb, length, take, drop, Result, Ok, Err}
use Rattle.std.proofs.Math.Option.{Option, none, some}
use Rattle.shared_words.specs.declared.Refusal.{Refusal}
use Rattle.shared_words.specs.declared.Refusal.TheVariants.{Slip, NoRoom}
use Rattle.shared_words.specs.Bytes.{value, packed}
use Rattle.shared_words.specs.Conditions.{Condition, must, broken, refused, accepted}
use Rattle.shared_words.specs.Effects.{Effect, leaving, filled}
use Rattle.shared_words.specs.Encodings.{Encoding}
use Rattle.slip_rules.specs.declared.Numbers.{Numbers}
use Rattle.slip_rules.specs.Slip.{Entry, bytes}
use Rattle.slip_rules.specs.Rules.{remember, most_entries}
use Rattle.slip_rules.specs.Conditions.{entry_conditions, label_conditions}
use Rattle.slip_rules.specs.Walk.{Entries, behind, verdict}

-- ---- an entry as four numbers

-- of the entry at offset o
abbrev pub numbers_of : ℕ → Entry → Numbers
numbers_of o e = record { name = o + 1; len = length e.name; file = e.file; sums = e.first + 256 * e.second }

abbrev pub all_numbers : ℕ → List Entry → List Numbers
all_numbers o [] = []
all_numbers o (e ∷ es) = numbers_of o e ∷ all_numbers (behind o e) es

-- the entry that they stand for, beside the names
abbrev pub entry_from : List ℕ → Numbers → Entry
entry_from names n = record { name = take n.len (drop n.name names); file = n.file; first = n.sums % 256; second = n.sums / 256 }

abbrev pub entries_from : List ℕ → List Numbers → List Entry
entries_from names [] = []
entries_from names (n ∷ ns) = entry_from names n ∷ entries_from names ns

-- ---- how entries stand in a row: as little-endian bytes, 16 an entry; a part of an entry at its end is no room

abbrev pub flat : List Numbers → List ℕ
flat [] = []
flat (n ∷ ns) = n.name ∷ n.len ∷ n.file ∷ n.sums ∷ flat ns

abbrev pub byte_row : Encoding Numbers ℕ
byte_row = record { room = λ n. n / 16; encode = λ ns. packed 4 (flat ns) }

-- ---- reading

abbrev pub read_of : Encoding Numbers ℕ → List ℕ → Entries → Effect (Result ℕ Refusal) (List ℕ)
read_of c row (refused r) = leaving (Err r) row
read_of c row (accepted es) =
    cond (leb (length es) (c.room (length row)))
    (leaving (Ok (length es)) (filled (c.encode (all_numbers 7 es)) row))
    (leaving (Err (NoRoom (length es))) row)

unfoldable pub slip_read_call : Encoding Numbers ℕ → List ℕ → List ℕ → Effect (Result ℕ Refusal) (List ℕ)
slip_read_call c s row = read_of c row (verdict s)

-- ---- what the writer is given: the numbers of entries, and whether a part of one more stands behind them

pub record Given : Type 0 where
  pub rows : List Numbers
  pub part : Bool

abbrev pub whole : List Numbers → Given
whole ns = record { rows = ns; part = false }

-- the entry at the front of a row of bytes, and the first k of them
abbrev pub row_at : List ℕ → Numbers
row_at s = record { name = value (take 4 s); len = value (take 4 (drop 4 s)); file = value (take 4 (drop 8 s)); sums = value (take 4 (drop 12 s)) }

abbrev pub rows_in : ℕ → List ℕ → List Numbers
rows_in zero s = []
rows_in (suc k) s = row_at s ∷ rows_in k (drop 16 s)

abbrev pub given_bytes : List ℕ → Given
given_bytes s = record { rows = rows_in (length s / 16) s; part = not (eqb (length s % 16) 0) }

-- ---- writing

-- the name stands in `names` whole
abbrev pub within : List ℕ → Numbers → Bool
within names n = leb (n.name + n.len) (length names)

-- "in the writer, the entry's number, 1000 for one too many": from entry i on; then what comes later
abbrev pub row_conditions : List ℕ → List (List ℕ) → ℕ → List Numbers → List Condition → List Condition
row_conditions names seen i [] later = later
row_conditions names seen i (n ∷ ns) later =
    must (ltb i most_entries) (Slip i) ∷
    must (within names n) (Slip i) ∷
    entry_conditions seen i (entry_from names n) (row_conditions names (remember seen (entry_from names n)) (suc i) ns later)

-- the number of the entry behind one
abbrev pub one_on : ℕ → Entry → ℕ
one_on i e = suc i

-- "room stays last": in a buffer of `room` bytes
abbrev pub write_conditions : List ℕ → Given → ℕ → List Condition
write_conditions names g room =
    row_conditions names [] 0 g.rows (
    must (not g.part) (Slip (length g.rows)) ∷
    label_conditions one_on 0 (entries_from names g.rows) (
    must (leb (length (bytes (entries_from names g.rows))) room) (NoRoom (length (bytes (entries_from names g.rows)))) ∷ []))

abbrev pub write_of : List ℕ → List ℕ → Option Refusal → Effect (Result ℕ Refusal) (List ℕ)
write_of new out (some r) = leaving (Err r) out
write_of new out none = leaving (Ok (length new)) (filled new out)

unfoldable pub slip_write_call : List ℕ → Given → List ℕ → Effect (Result ℕ Refusal) (List ℕ)
slip_write_call names g out = write_of (bytes (entries_from names g.rows)) out (broken (write_conditions names g (length out)))
