-- What the functions of the judge promise.
use Rattle.shared_words.specs.declared.Refusal.{Refusal}
use Rattle.std.specs.Prelude.{◌≡◌, Bool, true, not, ℕ, zero, suc, ◌+◌, ◌*◌, ◌%◌, ◌<◌, ◌≤◌, eqb, length, get_or, Option, Some, None, Result, Ok}
use denote.Struct.Props as logic
use mathlib.Core.List.{List, [], ◌∷◌, ◌++◌, tail}
use Rattle.slip_rules.specs.Slip.{Entry}
use Rattle.shared_words.specs.declared.Refusal.TheVariants.{Unchecked, Changed, BadFigure}
use Rattle.shared_words.specs.Conditions.{Condition, must, answered}
use Rattle.stick_rules.specs.Items.{Item, sums_of, has_length_of, has_sums_of, is_read, has_own_reader, is_accepted}
use Rattle.slip_check.specs.Entries.{entry_in, next_at, after, Whole}
use Rattle.stick_names.specs.Digest.{digest_of}
use Rattle.stick_rules.specs.Judge.{entry_index, entry_of, entry_is, Target, is_matched, item_conditions, matching}
use Rattle.stick_rules.specs.Judge.{items_conditions, matched_by, entry_conditions, rest_conditions}
use Rattle.stick_judge.specs.declared.Sought.{Sought}

-- ---- the slip: its entries are whole, and the digest of each one's name is known

abbrev pub Digested : List ℕ → ℕ → List ℕ → Type 0
Digested slip n digests = (k : ℕ) → k < n → get_or digests k 0 ≡ digest_of (entry_in slip (after k slip 7)).name

pub record Indexed (slip : List ℕ) (entries : ℕ) (digests : List ℕ) : Type 0 where
  pub whole : Whole entries slip 7
  pub few : entries ≤ 1000
  pub room : entries ≤ length digests
  pub digested : Digested slip entries digests

-- there is one proof of it at most, so it may be a ghost field
whole_prop : (n : ℕ) (slip : List ℕ) (o : ℕ) → IsProp (Whole n slip o)
whole_prop zero slip o = Prim.hlevel logic.props
whole_prop (suc n) slip o = Prim.hlevel (whole_prop n slip (next_at slip o), logic.props)

pub indexed-prop : (slip : List ℕ) (n : ℕ) (digests : List ℕ) → IsProp (Indexed slip n digests)
indexed-prop slip n digests = Prim.hlevel (whole_prop, logic.props)

-- ---- what is expected at a path

-- an entry, with its number
pub record Is (e : Entry) (number : ℕ) (r : Sought) : Type 0 where
  pub numbered : r.number ≡ number
  pub file-is : r.file ≡ e.file
  pub sums_is : r.sums ≡ sums_of e

-- its length and its sums stand for those of an entry
abbrev pub is_long_as : Sought → Item → Bool
is_long_as r t = eqb t.size r.file

abbrev pub is_summed_as : Sought → Item → Bool
is_summed_as r t = eqb (t.checksum % 65_536) r.sums

-- the entry of a path
pub record FindsEntry (file : Bool) (es : List Entry) (path : List ℕ) (r : Sought) : Type 0 where
  pub within : r.number < length es
  pub numbered : r.number ≡ entry_index file es path
  pub long : file ≡ true → (t : Item) → entry_is has_length_of (entry_of es path) t ≡ is_long_as r t
  pub summed : file ≡ true → (t : Item) → entry_is has_sums_of (entry_of es path) t ≡ is_summed_as r t

-- or that there is none
abbrev pub Finds : Bool → List Entry → List ℕ → Option Sought → Type 0
Finds file es path (Some r) = FindsEntry file es path r
Finds file es path None = length es ≡ entry_index file es path

-- ---- one item

-- the conditions of a file, once its entry is known
abbrev pub evidence : ℕ → ℕ → ℕ → Item → List Condition
evidence n file sums t =
    must (eqb t.size file) (Changed n) ∷
    must (is_read t) (Unchecked n) ∷
    must (has_own_reader t) (Unchecked n) ∷
    must (eqb (t.checksum % 65_536) sums) (Changed n) ∷
    must (is_accepted t) (BadFigure n) ∷ []

-- a flag for each target: whether it is matched. Those of an entry are 64, one for each length.
abbrev pub Flags : List ℕ → List Target → Type 0
Flags flags matched = (k n : ℕ) → n < 64 → 64 * k + n < length flags → not (eqb (get_or flags (64 * k + n) 0) 0) ≡ is_matched k n matched

-- an item whose conditions are these was judged, and the flags are those of `matched'` then
pub record Marked (flags' : List ℕ) (cs : List Condition) (matched' : List Target) (r : Result Unit Refusal) : Type 0 where
  pub is : r ≡ answered cs
  pub marks : r ≡ (Ok tt) → Flags flags' matched'

pub record JudgesItem (es : List Entry) (n : ℕ) (t : Item) (flags : List ℕ) (r : Result Unit Refusal) (flags' : List ℕ) : Type 0 where
  pub long : length flags' ≡ length flags
  pub judges : (matched : List Target) → Flags flags matched → Marked flags' (item_conditions es matched n t) (matching es matched t) r

-- ---- all of them

-- those behind the first
pub record JudgesItems (es : List Entry) (ts : List Item) (flags : List ℕ) (r : Result Unit Refusal) (flags' : List ℕ) : Type 0 where
  pub long : length flags' ≡ length flags
  pub judges : Flags flags [] → Marked flags' (items_conditions es [] 1 ts) (matched_by es [] ts) r

-- the entries, of which there are so many
abbrev pub JudgesEntries : ℕ → List ℕ → Result Unit Refusal → Type 0
JudgesEntries n flags r = (es : List Entry) (matched : List Target) → length es ≡ n → Flags flags matched → r ≡ answered (entry_conditions 0 es matched)

abbrev pub JudgesRest : ℕ → List Item → List ℕ → Result Unit Refusal → Type 0
JudgesRest n ts flags r = (es : List Entry) (matched : List Target) → length es ≡ n → Flags flags matched → r ≡ answered (rest_conditions es matched ts)

-- all conditions but those of the stick's own folder
abbrev pub behind_root : List Entry → List Item → List Condition
behind_root es ts = items_conditions es [] 1 (tail ts) ++ rest_conditions es (matched_by es [] (tail ts)) ts
