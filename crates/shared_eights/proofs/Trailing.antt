-- The zeros below the lowest mark of eight bytes, by eights: the first byte that is marked.
use mathlib.Core.Path.{◌≡◌, refl, sym, ap, ap₂, ◌∙◌}
use mathlib.Core.Bool.{Bool, true, false, cond}
use Prim.Native.Nat.{ℕ, zero, suc, ◌+◌, ◌*◌, ◌/◌, ◌%◌}
use native.Mathlib.Omega.{arith}
use mathlib.Core.List.{List, [], ◌∷◌}
use lib.ListN.{length}
use lib.Count.{count_trailing_zeros, under}
use Rattle.shared_words.specs.Bytes.{value}
use Rattle.shared_words.specs.Lists.{first_fault}
use Rattle.shared_eights.specs.Eights.{marks}

-- one zero more below twice a number
twice : (d n : ℕ) → count_trailing_zeros (suc d) (2 * n) ≡ suc (count_trailing_zeros d n)
unfolding count_trailing_zeros
twice d n =
    let e : 2 * n % 2 ≡ 0 = omega arith in
    let h : 2 * n / 2 ≡ n = omega arith in
    ap (λ (x : ℕ). under x (count_trailing_zeros d (2 * n / 2))) e ∙ ap (λ (x : ℕ). suc (count_trailing_zeros d x)) h

odd : (d n : ℕ) → count_trailing_zeros (suc d) (1 + 2 * n) ≡ 0
unfolding count_trailing_zeros
odd d n =
    let e : (1 + 2 * n) % 2 ≡ 1 = omega arith in
    ap (λ (x : ℕ). under x (count_trailing_zeros d ((1 + 2 * n) / 2))) e

-- by 2 to the power of k
doubled : ℕ → ℕ → ℕ
doubled zero n = n
doubled (suc k) n = 2 * doubled k n

past : (k d n : ℕ) → count_trailing_zeros (k + d) (doubled k n) ≡ k + count_trailing_zeros d n
unfolding doubled
past zero d n =
    let q : 0 + d ≡ d = omega arith in
    ap (λ (x : ℕ). count_trailing_zeros x n) q ∙ omega arith
past (suc k) d n =
    let q : suc k + d ≡ suc (k + d) = omega arith in
    ap (λ (x : ℕ). count_trailing_zeros x (2 * doubled k n)) q ∙ twice (k + d) (doubled k n) ∙ omega (arith, past k d n)

good_byte : (d n : ℕ) → count_trailing_zeros (8 + d) (256 * n) ≡ 8 + count_trailing_zeros d n
unfolding doubled
good_byte d n =
    let q : 256 * n ≡ doubled 8 n = omega arith in
    ap (count_trailing_zeros (8 + d)) q ∙ past 8 d n

bad_byte : (d n : ℕ) → count_trailing_zeros (8 + d) (128 + 256 * n) ≡ 7
unfolding doubled
bad_byte d n =
    let q : 128 + 256 * n ≡ doubled 7 (1 + 2 * n) = omega arith in
    let r : 8 + d ≡ 7 + suc d = omega arith in
    ap₂ count_trailing_zeros r q ∙ past 7 (suc d) (1 + 2 * n) ∙ omega (arith, odd d n)

-- the bits of n bytes
bits : ℕ → ℕ
bits zero = 0
bits (suc n) = 8 + bits n

module _ (good : ℕ → Bool) where
  first : (bs : List ℕ) → count_trailing_zeros (bits (length bs)) (value (marks good bs)) / 8 ≡ first_fault good bs
  unfolding bits count_trailing_zeros
  first [] = refl
  first (b ∷ bs) = go (good b) (first bs)
    where
      go : (g : Bool) → count_trailing_zeros (bits (length bs)) (value (marks good bs)) / 8 ≡ first_fault good bs →
          count_trailing_zeros (8 + bits (length bs)) (cond g 0 128 + 256 * value (marks good bs)) / 8 ≡ cond g (suc (first_fault good bs)) 0
      go true ih =
          let q : 0 + 256 * value (marks good bs) ≡ 256 * value (marks good bs) = omega arith in
          let e = ap (count_trailing_zeros (8 + bits (length bs))) q ∙ good_byte (bits (length bs)) (value (marks good bs)) in
          omega (arith, e, ih)
      go false ih = ap (λ (x : ℕ). x / 8) (bad_byte (bits (length bs)) (value (marks good bs)))

  pub first-marked : (bs : List ℕ) → length bs ≡ 8 → (w : ℕ) → w ≡ value (marks good bs) → count_trailing_zeros 64 w / 8 ≡ first_fault good bs
  unfolding bits
  first-marked bs l w e = ap (λ (x : ℕ). count_trailing_zeros 64 x / 8) e ∙ ap (λ (n : ℕ). count_trailing_zeros (bits n) (value (marks good bs)) / 8) (sym l) ∙ first bs
