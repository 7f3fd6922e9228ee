-- The calls: an item of another length, and one that is filled.
use mathlib.Core.Path.{◌≡◌, ap, ◌∙◌}
use mathlib.Core.Bool.{cond}
use mathlib.Core.List.{List, [], ◌∷◌}
use Prim.Native.Nat.{ℕ}
use native.Mathlib.Omega.{arith}
use lib.ListN.{length, take, drop}
use lib.Seq.{take_all}
use borrow.Author.Tests.{eq-eqb, ne_eqb}
use Rattle.shared_words.specs.declared.Refusal.TheVariants.{NoRoom}
use Rattle.c_codes.specs.Codes.{refusal_code}
use Rattle.c_sums.specs.Numbers.{with_part_number}
use Rattle.stick_rules.specs.Names.{format_of}
use Rattle.stick_rules.specs.Records.{eight_at}
use Rattle.stick_evidence.specs.Evidence.{answer_of, too_long, is_more, file_numbers, numbers_of_more, put_in_item}

pub other_length : (item item' : List ℕ) (n : ℕ) → (length item ≡ 56 → ⊥) → n ≡ refusal_code (NoRoom 56) →
    (n ≡ (put_in_item item item').answer) × (item ≡ (put_in_item item item').rows)
other_length item item' n h e = let z = ne_eqb (length item) 56 h in (rw z e, rw z)

pub right_length : (item item' out : List ℕ) → length item ≡ 56 → out ≡ item' → (0 ≡ (put_in_item item item').answer) × (out ≡ (put_in_item item item').rows)
right_length item item' out h e = let z = eq-eqb (length item) 56 h in (rw z, rw z e)

pub file-numbers : (path : List ℕ) (size : ℕ) (s : List ℕ) (checksum reader answer : ℕ) → checksum ≡ with_part_number 0 s →
    reader ≡ format_of path → answer ≡ answer_of reader s →
    1 ∷ size ∷ checksum ∷ reader ∷ answer ∷ [] ≡ file_numbers path size s
file-numbers path size s checksum reader answer a b c =
    let r : reader ≡ format_of path = b in
    let d : answer ≡ answer_of (format_of path) s = c ∙ ap (λ (x : ℕ). answer_of x s) r in
    rw (a, r, d)

pub more_numbers : (part item : List ℕ) (before checksum reader old answer : ℕ) → before ≡ eight_at item 32 → checksum ≡ with_part_number before part →
    reader ≡ eight_at item 40 → old ≡ eight_at item 48 → answer ≡ cond (is_more reader part) too_long old →
    checksum ∷ reader ∷ answer ∷ [] ≡ numbers_of_more part item
more_numbers part item before checksum reader old answer a b c d e =
    let f : checksum ≡ with_part_number (eight_at item 32) part = b ∙ ap (λ (x : ℕ). with_part_number x part) a in
    let g : answer ≡ cond (is_more (eight_at item 40) part) too_long (eight_at item 48) =
    e ∙ ap (λ (x : ℕ). cond (is_more x part) too_long old) c ∙ ap (λ (x : ℕ). cond (is_more (eight_at item 40) part) too_long x) d in
    rw (f, c, g)
