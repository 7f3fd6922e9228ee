-- The making of an entry, a file against an entry, and what passes.
use Rattle.shared_words.specs.declared.Refusal.{Refusal}
use Rattle.std.specs.Prelude.{◌≡◌, ◌&&◌, cond, ◌↔◌, ℕ, ◌-◌, ◌^◌, ◌<◌, eqb, ltb, length, Result, Ok, Err}
use mathlib.Core.List.{List, [], flatten}
use Rattle.shared_words.specs.Refusals.{limit}
use Rattle.slip_sums.specs.declared.Sum.{Sum}
use Rattle.shared_words.specs.declared.Refusal.TheVariants.{TooLong, Differs}
use Rattle.slip_sums.specs.Fletcher.{sum_of}
use Rattle.slip_sums.specs.Joined.{with_parts}

-- "1 when an entry is made", of a file that is too long
abbrev pub sums_call : List ℕ → Result Sum Refusal
sums_call file = cond (ltb limit (length file)) (Err TooLong) (Ok (sum_of file))

-- "19 DIFFERS, place 0 for the length, else 1 for the sum"
abbrev pub length_fault : Result Unit Refusal
length_fault = Err (Differs 0)

abbrev pub other_sums : Result Unit Refusal
other_sums = Err (Differs 1)

abbrev pub match_of : Sum → ℕ → ℕ → ℕ → Result Unit Refusal
match_of a l first second = cond (eqb a.len l) (cond (eqb a.first first && eqb a.second second) (Ok tt) other_sums) length_fault

-- a file against the entry made of another
abbrev pub against : List ℕ → Sum → Result Unit Refusal
against file entry = match_of (sum_of file) entry.len entry.first entry.second

-- IT PASSES EXACTLY WHEN length and sums are the same: crate claim_sums says after which damage they are.
abbrev pub PassesExactly : Type 0
PassesExactly = (file original : List ℕ) → (against file (sum_of original) ≡ (Ok tt)) ↔ (sum_of file ≡ sum_of original)

-- PART BY PART, in file order, the answers are the same: of any cutting, against any length that an entry can hold.
abbrev pub SamePartByPart : Type 0
SamePartByPart = (parts : List (List ℕ)) (l first second : ℕ) → l < 2 ^ 48 - 1 →
    match_of (with_parts (sum_of []) parts) l first second ≡ match_of (sum_of (flatten parts)) l first second
