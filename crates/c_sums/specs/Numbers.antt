-- The checksum's answers as the one number that C gets. (That an answer proper is below 2^32, and so never taken for a refusal, is
-- said in crate claim_numbers.)
use Rattle.shared_words.specs.declared.Refusal.{Refusal}
use Rattle.std.specs.Prelude.{◌≡◌, ◌⊎◌, ℕ, ◌+◌, ◌*◌, ◌/◌, ◌%◌, ◌^◌, ◌≤◌, ◌<◌, length, Result, Ok, Err}
use mathlib.Core.List.{List, [], ◌∷◌, ◌++◌, flatten}
use Rattle.slip_sums.specs.declared.Sum.{Sum}
use Rattle.slip_sums.specs.Fletcher.{sum_of}
use Rattle.slip_sums.specs.Joined.{join, Proper, capped, with_part}
use Rattle.slip_sums.specs.Passes.{other_sums, match_of}
use Rattle.c_codes.specs.Codes.{refusal_code}

-- ---- of a whole file

-- "sums" is one number
abbrev pub sums_number : Sum → ℕ
sums_number a = a.first + 256 * a.second

abbrev pub sums_or : Result Sum Refusal → ℕ
sums_or (Ok a) = sums_number a
sums_or (Err r) = refusal_code r

-- they are remainders, so that the number has two bytes
abbrev pub SumsProper : Result Sum Refusal → Type 0
SumsProper (Ok a) = Proper a
SumsProper (Err r) = Unit

abbrev pub zero_or : Result Unit Refusal → ℕ
zero_or (Ok tt) = 0
zero_or (Err r) = refusal_code r

-- SUMS THAT NO FILE HAS, with a byte 255 or beyond two bytes, never pass.
abbrev pub NoFileHas : Type 0
NoFileHas = (s : List ℕ) (sums : ℕ) → (sums % 256 ≡ 255) ⊎ (255 ≤ sums / 256) →
    match_of (sum_of s) (length s) (sums % 256) (sums / 256) ≡ other_sums

-- ---- a part is known by one number

abbrev pub number_of : Sum → ℕ
number_of a = sums_number a + 65_536 * a.len

-- every number stands for something: sum bytes are taken modulo 255
abbrev pub sum_in : ℕ → Sum
sum_in n = record { len = n / 65_536; first = n % 256 % 255; second = n / 256 % 256 % 255 }

-- a sum as it is handed on: remainders, and a length of 48 bits
pub record Handed (a : Sum) : Type 0 where
  pub proper : Proper a
  pub length_small : a.len < 2 ^ 48

-- IT READS BACK
abbrev pub ReadsBack : Type 0
ReadsBack = (a : Sum) → Handed a → sum_in (number_of a) ≡ a

-- the number of a part; of what stood before, followed by a part; of two parts joined
abbrev pub part_number : List ℕ → ℕ
part_number part = number_of (capped (sum_of part))

abbrev pub with_part_number : ℕ → List ℕ → ℕ
with_part_number before part = number_of (with_part (sum_in before) part)

abbrev pub join_numbers : ℕ → ℕ → ℕ
join_numbers m n = number_of (capped (join (sum_in m) (sum_in n)))

-- parts one after the other, in file order; the number of the empty part is 0
abbrev pub sum_by_parts : ℕ → List (List ℕ) → ℕ
sum_by_parts n [] = n
sum_by_parts n (part ∷ parts) = sum_by_parts (with_part_number n part) parts

-- EVERY CUTTING of a file gives the number of the file.
abbrev pub NumberByParts : Type 0
NumberByParts = (parts : List (List ℕ)) → sum_by_parts 0 parts ≡ part_number (flatten parts)

-- AGAINST AN ENTRY the answer is then that of the file.
abbrev pub MatchesByParts : Type 0
MatchesByParts = (parts : List (List ℕ)) (l sums : ℕ) → l < 2 ^ 32 →
    match_of (sum_in (sum_by_parts 0 parts)) l (sums % 256) (sums / 256) ≡ match_of (sum_of (flatten parts)) l (sums % 256) (sums / 256)

-- TWO PARTS JOINED, where the second's length needs no limit
abbrev pub NumbersJoin : Type 0
NumbersJoin = (xs ys : List ℕ) → length ys < 2 ^ 48 → join_numbers (part_number xs) (part_number ys) ≡ part_number (xs ++ ys)

-- JOINING IS ASSOCIATIVE, where no length needs one
abbrev pub NumbersAssociate : Type 0
NumbersAssociate = (a b c : ℕ) → a / 65_536 + b / 65_536 + c / 65_536 < 2 ^ 48 → join_numbers (join_numbers a b) c ≡ join_numbers a (join_numbers b c)
