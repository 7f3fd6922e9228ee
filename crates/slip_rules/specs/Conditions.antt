-- The conditions of entries, in order, as the reader and the writer judge them.
use Rattle.std.specs.Prelude.{Bool, true, ◌&&◌, List, [], ◌∷◌, ℕ}
use Rattle.shared_words.specs.declared.Refusal.TheVariants.{Slip, Text}
use Rattle.shared_words.specs.Conditions.{Condition, must}
use Rattle.slip_rules.specs.Slip.{Entry}
use Rattle.slip_rules.specs.Rules.{is_named, sums_proper, not_twice, is_labelled}

-- several tests as one
abbrev pub all_of : List Bool → Bool
all_of [] = true
all_of (b ∷ bs) = b && all_of bs

-- "18 SLIP for any broken layout, a sum byte 255 and a repeated name included": an entry with this place, after entries
-- with the names `seen`; then what comes later
abbrev pub entry_conditions : List (List ℕ) → ℕ → Entry → List Condition → List Condition
entry_conditions seen place e later =
    must (is_named e) (Slip place) ∷
    must (sums_proper e) (Slip place) ∷
    must (not_twice seen e) (Slip place) ∷ later

-- "24 TEXT .. in the slip, after all of 18, at the first such entry as there": the first entry has this place, and `next`
-- tells the place behind one; then what comes later
abbrev pub label_conditions : (ℕ → Entry → ℕ) → ℕ → List Entry → List Condition → List Condition
label_conditions next place [] later = later
label_conditions next place (e ∷ es) later = must (is_labelled e) (Text place) ∷ label_conditions next (next place e) es later
