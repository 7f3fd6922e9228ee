-- The evidence for a file, made by the library: what stands in its record behind the two numbers of its name.
use Rattle.std.specs.Prelude.{Bool, not, ◌&&◌, cond, List, [], ◌∷◌, ◌++◌, ℕ, ◌^◌, eqb, length, take}
use Rattle.shared_words.specs.declared.Refusal.TheVariants.{NoRoom}
use Rattle.shared_words.specs.Bytes.{packed}
use Rattle.shared_words.specs.Effects.{Effect, leaving}
use Rattle.studio_rules.specs.Calls.{check_call}
use Rattle.cob_rules.specs.Calls.{check_call as cob_check_call}
use Rattle.c4d_rules.specs.Calls.{c4d_check_call}
use Rattle.c_codes.specs.Codes.{refusal_code, records_or, count_or}
use Rattle.c_sums.specs.Numbers.{with_part_number}
use Rattle.stick_rules.specs.Names.{format_of}
use Rattle.stick_rules.specs.Records.{record_size, eight_at}

-- what a reader answers of these bytes: tds_check, tds_cob_check, tds_c4d_check; 0 where none is asked
abbrev pub answer_of : ℕ → List ℕ → ℕ
answer_of reader s =
    cond (eqb reader 1) (records_or (check_call s)) (
    cond (eqb reader 2) (count_or (cob_check_call s)) (
    cond (eqb reader 3) (count_or (c4d_check_call s)) 0))

-- ---- a file: its kind, the size that the system told, the sum of its bytes, its reader by its ending, and what that answers

abbrev pub file_numbers : List ℕ → ℕ → List ℕ → List ℕ
file_numbers path size s = 1 ∷ size ∷ with_part_number 0 s ∷ format_of path ∷ answer_of (format_of path) s ∷ []

-- ---- a further part of it: the sum goes on. A figure comes in one part: where there is more of it, it is refused as too long.

abbrev pub too_long : ℕ
too_long = 2 ^ 32

abbrev pub is_more : ℕ → List ℕ → Bool
is_more reader part = not (eqb reader 0) && not (eqb (length part) 0)

abbrev pub numbers_of_more : List ℕ → List ℕ → List ℕ
numbers_of_more part item =
    with_part_number (eight_at item 32) part ∷ eight_at item 40 ∷ cond (is_more (eight_at item 40) part) too_long (eight_at item 48) ∷ []

-- ---- the calls: 0, and the item with these numbers from an offset to its end; or 15 with its size, and the item as it was

abbrev pub ending : List ℕ → ℕ → List ℕ → List ℕ
ending item at numbers = take at item ++ packed 8 numbers

abbrev pub put_in_item : List ℕ → List ℕ → Effect ℕ (List ℕ)
put_in_item item item' = cond (eqb (length item) record_size) (leaving 0 item') (leaving (refusal_code (NoRoom record_size)) item)

abbrev pub file_call : List ℕ → ℕ → List ℕ → List ℕ → Effect ℕ (List ℕ)
file_call path size s item = put_in_item item (ending item 16 (file_numbers path size s))

abbrev pub more_call : List ℕ → List ℕ → Effect ℕ (List ℕ)
more_call part item = put_in_item item (ending item 32 (numbers_of_more part item))
