-- The combination that is looked up is the rules': one computed test of all 4,096 sets.
use mathlib.Core.Path.{◌≡◌, refl, sym, ap, ◌∙◌}
use Prim.Native.Nat.{ℕ, zero, suc, ◌+◌, ◌*◌, ◌/◌, ◌%◌}
use native.Mathlib.Omega.{arith}
use native.Mathlib.Nat.{div-div-eq-div-mul}
use mathlib.Core.Bool.{Bool, true, false, ◌&&◌, cond}
use mathlib.Core.List.{List, [], ◌∷◌, map}
use lib.Dec.{eqb}
use lib.ListN.{length}
use borrow.Author.Tests.{eqb-true}
use Rattle.shared_words.specs.Lists.{every}
use Rattle.shared_words.proofs.Bools.{and_parts, bit_small}
use Rattle.c4d_rules.specs.Kinds.{exclusive}
use Rattle.c4d_rules.specs.Combinations.{is_in, holds, combination}
use Rattle.c4d_parts.specs.Bits.{bits_from, bits, exclusive_in, Row, among, table, looked_up}

-- ---- a test of all rows of n answers

all_rows : ℕ → (List Bool → Bool) → Bool
all_rows zero p = p []
all_rows (suc n) p = all_rows n (λ bs. p (true ∷ bs)) && all_rows n (λ bs. p (false ∷ bs))

of_row : (n : ℕ) (p : List Bool → Bool) → all_rows n p ≡ true → (bs : List Bool) → length bs ≡ n → p bs ≡ true
unfolding all_rows
of_row zero p h [] l = h
of_row zero p h (b ∷ bs) l = absurd (omega arith)
of_row (suc n) p h [] l = absurd (omega arith)
of_row (suc n) p h (true ∷ bs) l = of_row n (λ x. p (true ∷ x)) (and_parts (all_rows n (λ x. p (true ∷ x))) (all_rows n (λ x. p (false ∷ x))) h).0 bs (omega arith)
of_row (suc n) p h (false ∷ bs) l = of_row n (λ x. p (false ∷ x)) (and_parts (all_rows n (λ x. p (true ∷ x))) (all_rows n (λ x. p (false ∷ x))) h).1 bs (omega arith)

-- ---- the sets

-- the answers for some identifiers, as a test
abbrev answers : List ℕ → List Bool → ℕ → Bool
answers [] bs id = false
answers (x ∷ xs) [] id = false
answers (x ∷ xs) (b ∷ bs) id = cond (eqb id x) b (answers xs bs id)

-- the number of a set of exclusive ones, by the answers for them
abbrev weights : List ℕ
weights = 0x0001 ∷ 0x0002 ∷ 0x0004 ∷ 0x0008 ∷ 0x0010 ∷ 0x0020 ∷ 0x0040 ∷ 0x0200 ∷ 0x0400 ∷ 0x0800 ∷ 0x2000 ∷ 0x4000 ∷ []

abbrev weighed : List ℕ → List Bool → ℕ
weighed [] bs = 0
weighed (w ∷ ws) [] = 0
weighed (w ∷ ws) (b ∷ bs) = w * cond b 1 0 + weighed ws bs

-- the table, its sets as numbers
rows_of : List Row → List (ℕ × ℕ)
rows_of [] = []
rows_of (r ∷ rs) = (bits_from (is_in r.set) 16 17, r.combination) ∷ rows_of rs

in_rows : ℕ → List (ℕ × ℕ) → ℕ
in_rows n [] = 0
in_rows n (r ∷ rs) = cond (eqb n r.0) r.1 (in_rows n rs)

rows_same : (n : ℕ) (rs : List Row) → among n rs ≡ in_rows n (rows_of rs)
unfolding rows_of in_rows
rows_same n [] = refl
rows_same n (r ∷ rs) = ap (cond (eqb n (bits_from (is_in r.set) 16 17)) r.combination) (rows_same n rs)

numbered : List (ℕ × ℕ)
numbered =
    (0x0001, 1) ∷ (0x0009, 1) ∷ (0x000B, 1) ∷ (0x000D, 1) ∷ (0x000F, 1) ∷ (0x0010, 2) ∷ (0x0011, 2) ∷ (0x4010, 2) ∷ (0x4011, 2) ∷ (0x0020, 3) ∷
    (0x0040, 4) ∷ (0x0200, 5) ∷ (0x0400, 6) ∷ (0x0801, 7) ∷ (0x2000, 8) ∷ (0, 9) ∷ []

table-numbered : rows_of table ≡ numbered
unfolding rows_of table numbered
table-numbered = refl

same_combination : List Bool → Bool
same_combination bs = eqb (in_rows (weighed weights bs) numbered) (combination (answers exclusive bs))

all_same : all_rows 12 same_combination ≡ true
unfolding all_rows same_combination in_rows numbered combination holds every
all_same = refl

looked_up_lem : (there : ℕ → Bool) → looked_up (weighed weights (map there exclusive)) ≡ combination there
unfolding same_combination looked_up combination holds every
looked_up_lem there =
    rows_same (weighed weights (map there exclusive)) table ∙ ap (in_rows (weighed weights (map there exclusive))) table-numbered ∙
    eqb-true _ _ (of_row 12 same_combination all_same (map there exclusive) refl)

-- ---- without those that any object may have

module _ (there : ℕ → Bool) where
  low : bits_from there 16 17 % 128 ≡ bits_from there 16 7
  low =
      omega (arith, bit_small (there 16), bit_small (there 17), bit_small (there 18), bit_small (there 19), bit_small (there 20), bit_small (there 21), bit_small (there 22))

  above_low : bits_from there 16 17 / 512 ≡ bits_from there 25 8
  above_low =
      omega (arith, bit_small (there 16), bit_small (there 17), bit_small (there 18), bit_small (there 19), bit_small (there 20), bit_small (there 21), bit_small (there 22), bit_small (there 23), bit_small (there 24))

  middle : bits_from there 25 8 % 8 ≡ bits_from there 25 3
  middle = omega (arith, bit_small (there 25), bit_small (there 26), bit_small (there 27))

  above_middle : bits_from there 25 8 / 16 ≡ bits_from there 29 4
  above_middle = omega (arith, bit_small (there 25), bit_small (there 26), bit_small (there 27), bit_small (there 28))

  high : bits_from there 29 4 % 4 ≡ bits_from there 29 2
  high = omega (arith, bit_small (there 29), bit_small (there 30))

  exclusive-is : exclusive_in (bits_from there 16 17) ≡ weighed weights (map there exclusive)
  exclusive-is =
      let n = bits_from there 16 17 in
      let h : n / 8192 ≡ bits_from there 29 4 = sym (div-div-eq-div-mul n 512 16) ∙ rw above_low above_middle in
      rw (low, above_low, middle, h, high) (omega arith)

pub combination-is : (ids : List ℕ) → looked_up (exclusive_in (bits ids)) ≡ combination (is_in ids)
unfolding bits
combination-is ids = rw (exclusive-is (is_in ids)) (looked_up_lem (is_in ids))
