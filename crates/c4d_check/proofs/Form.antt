-- The file's header, by the three numbers that stand there.
use mathlib.Core.Path.{◌≡◌, refl, sym, ap, ◌∙◌}
use Prim.Native.Nat.{ℕ, ◌^◌, ◌<◌, ◌≤◌}
use native.Mathlib.Omega.{arith}
use mathlib.Core.Bool.{Bool, true, false}
use mathlib.Core.List.{List}
use lib.Dec.{eqb}
use borrow.Author.Tests.{eqb-true, eqb-false}
use lib.ListN.{length, take, drop, length-take, length-drop}
use lib.Seq.{length-take-le}
use Rattle.shared_words.specs.Lists.{same}
use Rattle.shared_words.specs.Bytes.{value_be, be, be_at, Bytes}
use Rattle.shared_words.proofs.Bytes.{bytes_take, bytes_drop}
use Rattle.shared_words.proofs.BigEndian.{be-value}
use Rattle.c4d_rules.specs.Layout.{form, mc4d, file_header}
use Rattle.c4d_rules.specs.Theorems.{HeaderTells}
use Rattle.c4d_rules.proofs.Bytes.{header_read}
use Rattle.shared_words.proofs.Lists.{same_true, same_refl}

-- two lists are the same or not
not_same : (xs ys : List ℕ) → (xs ≡ ys → ⊥) → same xs ys ≡ false
not_same xs ys n = go (same xs ys) refl
  where
    go : (q : Bool) → same xs ys ≡ q → q ≡ false
    go true e = absurd (n (same_true xs ys e))
    go false e = refl

-- four bytes are what their number tells
four : (t u : List ℕ) → Bytes t → length t ≡ 4 → be 4 (value_be u) ≡ u → value_be t ≡ value_be u → t ≡ u
four t u b l f e = sym (be-value t b) ∙ ap (λ (k : ℕ). be k (value_be t)) l ∙ ap (be 4) e ∙ f

module _ (s : List ℕ) (b : Bytes s) (n : ℕ) (small : n < 2 ^ 32) where
  pub too_short : length s < 12 → same (take 12 s) (file_header n) ≡ false
  too_short l = not_same (take 12 s) (file_header n) (λ (e : take 12 s ≡ file_header n). let k = ap length e in omega (arith, length-take 12 s))

  -- a header that is not told so is another
  other_header : (HeaderTells s n → ⊥) → same (take 12 s) (file_header n) ≡ false
  other_header h = not_same (take 12 s) (file_header n) (λ e. h ((header_read s b n small).0 e))

  is-header : 12 ≤ length s → be_at 0 4 s ≡ 0x464F_524D → be_at 4 4 s ≡ n → be_at 8 4 s ≡ 0x4D43_3444 → same (take 12 s) (file_header n) ≡ true
  is-header l f z m =
      let x : take 4 s ≡ form = four (take 4 s) form (bytes_take 4 s b) (length-take-le 4 s (omega arith)) refl f in
      let y : take 4 (drop 8 s) ≡ mc4d =
      four (take 4 (drop 8 s)) mc4d (bytes_take 4 (drop 8 s) (bytes_drop 8 s b)) (length-take-le 4 (drop 8 s) (omega (arith, length-drop 8 s))) refl m in
      rw ((header_read s b n small).1 record { form-first = x; size-next = z; mc4d-next = y }) (same_refl (file_header n))

  pub not-form : (be_at 0 4 s ≡ 0x464F_524D → ⊥) → same (take 12 s) (file_header n) ≡ false
  not-form h = other_header (λ t. h (ap value_be t.form-first))

  pub not-size : (be_at 4 4 s ≡ n → ⊥) → same (take 12 s) (file_header n) ≡ false
  not-size h = other_header (λ t. h t.size-next)

  -- what is left to be told
  pub last_tells : 12 ≤ length s → be_at 0 4 s ≡ 0x464F_524D → be_at 4 4 s ≡ n → same (take 12 s) (file_header n) ≡ eqb (be_at 8 4 s) 0x4D43_3444
  last_tells l f z = go (eqb (be_at 8 4 s) 0x4D43_3444) refl
    where
      go : (q : Bool) → eqb (be_at 8 4 s) 0x4D43_3444 ≡ q → same (take 12 s) (file_header n) ≡ q
      go true e = is-header l f z (eqb-true (be_at 8 4 s) 0x4D43_3444 e)
      go false e = other_header (λ t. eqb-false (be_at 8 4 s) 0x4D43_3444 e (ap value_be t.mc4d-next))
