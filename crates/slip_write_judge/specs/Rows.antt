-- The entries that the writer is given, by their numbers.
use Rattle.std.specs.Prelude.{ℕ, zero, suc, ◌+◌, ◌*◌, ◌<◌, ◌≤◌, ◌≡◌, Bool, true, List, [], ◌∷◌, ltb, length, drop}
use Rattle.slip_rules.specs.declared.Numbers.{Numbers}
use Rattle.slip_rules.specs.Slip.{Entry}
use Rattle.slip_rules.specs.Rules.{is_named, sums_proper, not_twice, most_entries}
use Rattle.slip_rules.specs.Conditions.{all_of}
use Rattle.slip_rules.specs.Calls.{row_at, entry_from, within}
use Rattle.slip_seen.specs.Seen.{Seen}

-- the row of number i, and the entry that it stands for
abbrev pub row_no : List ℕ → ℕ → Numbers
row_no s i = row_at (drop (16 * i) s)

abbrev pub entry_no : List ℕ → List ℕ → ℕ → Entry
entry_no names s i = entry_from names (row_no s i)

-- k rows from number i on, and the names of their entries
abbrev pub rows_from : ℕ → List ℕ → ℕ → List Numbers
rows_from zero s i = []
rows_from (suc k) s i = row_no s i ∷ rows_from k s (suc i)

abbrev pub names_from : List ℕ → ℕ → List ℕ → ℕ → List (List ℕ)
names_from names zero s i = []
names_from names (suc k) s i = (entry_no names s i).name ∷ names_from names k s (suc i)

-- the name of a row stands in `names` whole; and so do those of the first n rows
abbrev pub Inside : List ℕ → List ℕ → ℕ → Type 0
Inside names s i = (row_no s i).name + (row_no s i).len ≤ length names

abbrev pub AllInside : List ℕ → List ℕ → ℕ → Type 0
AllInside names s n = (j : ℕ) → j < n → Inside names s j

-- the conditions of the row of number i, as one test
unfoldable pub good_row : List ℕ → List ℕ → ℕ → Bool
good_row names s i =
    all_of (
    ltb i most_entries ∷ within names (row_no s i) ∷ is_named (entry_no names s i) ∷ sums_proper (entry_no names s i) ∷
    not_twice (names_from names i s 0) (entry_no names s i) ∷ [])

-- and what the code promises of it; the name of a good one is in the tree
pub record GoodRow (names s nodes : List ℕ) (i : ℕ) (r : Bool) (nodes' : List ℕ) : Type 0 where
  pub is : r ≡ good_row names s i
  pub inside : r ≡ true → Inside names s i
  pub short : r ≡ true → (row_no s i).len ≤ 255
  pub few : r ≡ true → i < most_entries
  pub seen : r ≡ true → Seen names nodes' (i + 1) (names_from names (i + 1) s 0)
  pub room : length nodes' ≡ length nodes
