-- Names compared a byte at a time, and four; names of other lengths.
use mathlib.Core.Path.{◌≡◌, refl, sym, ap, subst, ◌∙◌}
use Prim.Native.Nat.{ℕ, suc, ◌+◌, ◌*◌, ◌/◌, ◌%◌, ◌<◌, ◌≤◌}
use native.Mathlib.Numerals.{add-one}
use native.Mathlib.Omega.{arith}
use mathlib.Core.Bool.{Bool, true, false, ◌&&◌}
use mathlib.Core.List.{List, [], ◌∷◌}
use lib.Arith.{digits_div, digits_mod}
use lib.Dec.{eqb}
use lib.ListN.{length, take, drop, get_or}
use lib.Seq.{drop-cons}
use borrow.Author.Tests.{eq-eqb, ne_eqb}
use Rattle.shared_words.specs.Lists.{same}
use Rattle.shared_words.specs.Bytes.{value}
use Rattle.shared_words.proofs.Lists.{same_true}
use Rattle.shared_numbers.specs.Numbers.{long_at}
use Rattle.shared_numbers.proofs.At.{long-bytes}
use Rattle.shared_names.specs.Alike.{AlikeFor}

module _ (xs ys : List ℕ) where
  -- ---- one byte

  same_step : (i : ℕ) → i < length xs → i < length ys →
      same (drop i xs) (drop i ys) ≡ (eqb (get_or xs i 0) (get_or ys i 0) && same (drop (i + 1) xs) (drop (i + 1) ys))
  same_step i h l = rw (add-one i, drop-cons xs i 0 h, drop-cons ys i 0 l)

  pub alike_on : (i : ℕ) → AlikeFor xs ys i → i < length xs → i < length ys → get_or xs i 0 ≡ get_or ys i 0 → AlikeFor xs ys (i + 1)
  alike_on i k h l e = k ∙ same_step i h l ∙ rw (eq-eqb (get_or xs i 0) (get_or ys i 0) e)

  pub alike_off : (i : ℕ) → AlikeFor xs ys i → i < length xs → i < length ys → (get_or xs i 0 ≡ get_or ys i 0 → ⊥) → same xs ys ≡ false
  alike_off i k h l e = k ∙ same_step i h l ∙ rw (ne_eqb (get_or xs i 0) (get_or ys i 0) e)

  -- ---- four: as numbers they are the same only where each byte is

  digit : {b c : ℕ} (u v : ℕ) → b < 256 → c < 256 → u * 256 + b ≡ v * 256 + c → (b ≡ c) × (u ≡ v)
  digit u v p q e = (sym (digits_mod u p) ∙ ap (λ x. x % 256) e ∙ digits_mod v q, sym (digits_div u p) ∙ ap (λ x. x / 256) e ∙ digits_div v q)

  pub alike_four : (i : ℕ) → AlikeFor xs ys i → i + 4 ≤ length xs → i + 4 ≤ length ys → ((k : ℕ) → get_or xs k 0 < 256) → ((k : ℕ) → get_or ys k 0 < 256) →
      long_at xs i ≡ long_at ys i → AlikeFor xs ys (i + 4)
  alike_four i k h l small small' e =
      let p = long-bytes xs i h in
      let q = long-bytes ys i l in
      let f : ℕ → ℕ = λ k. get_or xs k 0 in
      let g : ℕ → ℕ = λ k. get_or ys k 0 in
      let d₀ = digit (f (i + 1) + 256 * f (i + 2) + 65536 * f (i + 3)) (g (i + 1) + 256 * g (i + 2) + 65536 * g (i + 3)) (small i) (small' i) (omega (arith, e, p, q)) in
      let d₁ = digit (f (i + 2) + 256 * f (i + 3)) (g (i + 2) + 256 * g (i + 3)) (small (i + 1)) (small' (i + 1)) (omega (arith, d₀.1)) in
      let d₂ = digit (f (i + 3)) (g (i + 3)) (small (i + 2)) (small' (i + 2)) (omega (arith, d₁.1)) in
      let two : i + 1 + 1 ≡ i + 2 = omega arith in
      let three : i + 2 + 1 ≡ i + 3 = omega arith in
      let four : i + 3 + 1 ≡ i + 4 = omega arith in
      let k₁ = alike_on i k (omega arith) (omega arith) d₀.0 in
      let k₂ = subst (AlikeFor xs ys) two (alike_on (i + 1) k₁ (omega arith) (omega arith) d₁.0) in
      let k₃ = subst (AlikeFor xs ys) three (alike_on (i + 2) k₂ (omega arith) (omega arith) d₂.0) in
      subst (AlikeFor xs ys) four (alike_on (i + 3) k₃ (omega arith) (omega arith) d₂.1)

  pub longs_differ : (i : ℕ) → AlikeFor xs ys i → (long_at xs i ≡ long_at ys i → ⊥) → same xs ys ≡ false
  unfolding long_at
  longs_differ i k n = k ∙ go (same (drop i xs) (drop i ys)) refl
    where
      go : (t : Bool) → same (drop i xs) (drop i ys) ≡ t → same (drop i xs) (drop i ys) ≡ false
      go false e = e
      go true e = absurd (n (ap (λ zs. value (take 4 zs)) (same_true (drop i xs) (drop i ys) e)))

-- ---- names of other lengths

pub same_length : (xs ys : List ℕ) → (length xs ≡ length ys → ⊥) → same xs ys ≡ false
same_length [] [] h = absurd (h refl)
same_length [] (y ∷ ys) h = refl
same_length (x ∷ xs) [] h = refl
same_length (x ∷ xs) (y ∷ ys) h = and-false (eqb x y) (same xs ys) (same_length xs ys (λ e. h (ap suc e)))
  where
    and-false : (a b : Bool) → b ≡ false → (a && b) ≡ false
    and-false true b e = e
    and-false false b e = refl
