-- The entries of a slip by their offsets, as the code steps over them; and what its functions promise.
use Rattle.shared_words.specs.declared.Refusal.{Refusal}
use Rattle.std.specs.Prelude.{◌≡◌, ℕ, zero, suc, ◌+◌, ◌≤◌, Bool, true, List, [], ◌∷◌, eqb, leb, length, drop, get_or, IfOk, OnOk, Result, Ok, Err}
use Rattle.shared_words.specs.declared.Refusal.TheVariants.{Slip}
use Rattle.shared_words.specs.Bytes.{be_at}
use Rattle.shared_words.specs.Conditions.{refused, accepted}
use Rattle.slip_rules.specs.Slip.{Entry}
use Rattle.slip_rules.specs.Rules.{is_named, sums_proper, not_twice, most_entries}
use Rattle.slip_rules.specs.Conditions.{all_of}
use Rattle.slip_rules.specs.Walk.{Entries, entry_at, walk, labelled, verdict}
use Rattle.slip_seen.specs.Seen.{Seen}

-- the entry at an offset, and the offset behind it
abbrev pub entry_in : List ℕ → ℕ → Entry
entry_in s o = entry_at (drop o s)

abbrev pub next_at : List ℕ → ℕ → ℕ
next_at s o = o + (7 + get_or s o 0)

-- k entries from an offset on, their names, and the offset behind them
abbrev pub entries_in : ℕ → List ℕ → ℕ → List Entry
entries_in zero s o = []
entries_in (suc k) s o = entry_in s o ∷ entries_in k s (next_at s o)

abbrev pub names_in : ℕ → List ℕ → ℕ → List (List ℕ)
names_in zero s o = []
names_in (suc k) s o = (entry_in s o).name ∷ names_in k s (next_at s o)

abbrev pub after : ℕ → List ℕ → ℕ → ℕ
after zero s o = o
after (suc k) s o = after k s (next_at s o)

-- they are whole
abbrev pub Whole : ℕ → List ℕ → ℕ → Type 0
Whole zero s o = o ≤ length s
Whole (suc k) s o = (next_at s o ≤ length s) × Whole k s (next_at s o)

-- at stands behind the first n entries, which are whole
pub record Reached (s : List ℕ) (n at : ℕ) : Type 0 where
  pub whole : Whole n s 7
  pub ends : after n s 7 ≡ at

-- the conditions of the walk at one entry, as one test
unfoldable pub good_at : List (List ℕ) → List ℕ → Bool
good_at seen s = all_of (leb (7 + get_or s 0 0) (length s) ∷ is_named (entry_at s) ∷ sums_proper (entry_at s) ∷ not_twice seen (entry_at s) ∷ [])

-- ---- what the functions promise

-- whether the entry behind the first n is good; if it is, its name is in the tree
pub record GoodEntry (s nodes : List ℕ) (n at : ℕ) (r : Bool) (nodes' : List ℕ) : Type 0 where
  pub is : r ≡ good_at (names_in n s 7) (drop at s)
  pub whole : r ≡ true → next_at s at ≤ length s
  pub seen : r ≡ true → Seen s nodes' (n + 1) (names_in (n + 1) s 7)
  pub room : length nodes' ≡ length nodes

abbrev pub walked_as : Result Unit Refusal → List ℕ → ℕ → Entries
walked_as (Err r) s n = refused r
walked_as (Ok _) s n = accepted (entries_in n s 7)

pub record Walks (s : List ℕ) (n : ℕ) (r : Result Unit Refusal) : Type 0 where
  pub is : walk n [] 7 (drop 7 s) ≡ walked_as r s n
  pub whole : OnOk r (Whole n s 7)

-- the conditions of the first seven bytes, as one test
unfoldable pub head_good : List ℕ → Bool
head_good s = all_of (leb 7 (length s) ∷ eqb (get_or s 0 0) 1 ∷ eqb (5 + be_at 1 4 s) (length s) ∷ leb (be_at 5 2 s) most_entries ∷ [])

-- the verdict, where the check answers r
abbrev pub answer_as : Result ℕ Refusal → List ℕ → Entries
answer_as (Err r) s = refused r
answer_as (Ok n) s = accepted (entries_in n s 7)

-- of n entries that were read, by their names
pub record Labels (s : List ℕ) (n : ℕ) (r : Result ℕ Refusal) : Type 0 where
  pub is : labelled (accepted (entries_in n s 7)) ≡ answer_as r s
  pub count : IfOk r (λ k. k ≡ n)

pub record Checks (s : List ℕ) (r : Result ℕ Refusal) : Type 0 where
  pub is : verdict s ≡ answer_as r s
  pub whole : IfOk r (λ n. Whole n s 7)
  pub few : IfOk r (λ n. n ≤ most_entries)
