-- The strict reading, in the order of refusals that docs/SLIP.md gives: a walk over bytes, which answers the first fault met
-- or the entries. A place is an offset in the slip.
use Rattle.std.specs.Prelude.{ℕ, zero, suc, ◌+◌, List, [], ◌∷◌, eqb, leb, length, take, drop, get_or}
use Rattle.shared_words.specs.declared.Refusal.TheVariants.{Slip}
use Rattle.shared_words.specs.Bytes.{be_at}
use Rattle.shared_words.specs.Conditions.{Condition, must, broken, Answer, refused, accepted, unless}
use Rattle.slip_rules.specs.Slip.{Entry, entry_size}
use Rattle.slip_rules.specs.Rules.{remember, most_entries}
use Rattle.slip_rules.specs.Conditions.{entry_conditions, label_conditions}

-- ---- the first seven bytes

-- "at 0 for the first 7 bytes (a length unlike the rest or a count over 1,000 too)"
abbrev pub head_conditions : List ℕ → List Condition
head_conditions s =
    must (leb 7 (length s)) (Slip 0) ∷
    must (eqb (get_or s 0 0) 1) (Slip 0) ∷
    must (eqb (5 + be_at 1 4 s) (length s)) (Slip 0) ∷
    must (leb (be_at 5 2 s) most_entries) (Slip 0) ∷ []

-- ---- the entries

-- what the walk answers: a refusal, or the entries that it has read
abbrev pub Entries : Type 0
Entries = Answer (List Entry)

abbrev pub with_entry : Entry → Entries → Entries
with_entry e (refused r) = refused r
with_entry e (accepted es) = accepted (e ∷ es)

-- what stands behind a name length n
abbrev pub entry_of : ℕ → List ℕ → Entry
entry_of n s = record { name = take n s; file = be_at n 4 s; first = get_or s (n + 4) 0; second = get_or s (n + 5) 0 }

unfoldable pub entry_at : List ℕ → Entry
entry_at s = entry_of (get_or s 0 0) (drop 1 s)

-- "then at the first bad entry": it is whole, as its name length says, and meets its rules
abbrev pub walk_conditions : List (List ℕ) → ℕ → List ℕ → Entry → List Condition
walk_conditions seen o s e = must (leb (7 + get_or s 0 0) (length s)) (Slip o) ∷ entry_conditions seen o e []

-- an entry at an offset ends here
abbrev pub behind : ℕ → Entry → ℕ
behind o e = o + entry_size e

-- after the good entry e at o, where `go` walks on
abbrev pub go_on : (List (List ℕ) → ℕ → List ℕ → Entries) → List (List ℕ) → ℕ → List ℕ → Entry → Entries
go_on go seen o s e = with_entry e (go (remember seen e) (behind o e) (drop (entry_size e) s))

abbrev pub step : (List (List ℕ) → ℕ → List ℕ → Entries) → List (List ℕ) → ℕ → List ℕ → Entry → Entries
step go seen o s e = unless (broken (walk_conditions seen o s e)) (go_on go seen o s e)

-- The entries that a count still promises, from offset o on, after entries with the names `seen`. A missing entry is bad
-- where it would start, and a byte left over where it stands.
abbrev pub walk : ℕ → List (List ℕ) → ℕ → List ℕ → Entries
walk zero seen o [] = accepted []
walk zero seen o (b ∷ s) = refused (Slip o)
walk (suc n) seen o s = step (walk n) seen o s (entry_at s)

-- ---- all of it

-- the entries that were read, by their names
abbrev pub labelled : Entries → Entries
labelled (refused r) = refused r
labelled (accepted es) = unless (broken (label_conditions behind 7 es [])) (accepted es)

-- THE ANSWER TO A SLIP: a refusal, or its entries
unfoldable pub verdict : List ℕ → Entries
verdict s = unless (broken (head_conditions s)) (labelled (walk (be_at 5 2 s) [] 7 (drop 7 s)))
