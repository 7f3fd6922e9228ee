-- Own data of each shape in a part of a file: what its size is, from the numbers that the code reads there.
use mathlib.Core.Path.{◌≡◌, refl, sym, ap, ◌∙◌}
use mathlib.Core.Bool.{true, false}
use mathlib.Core.List.{List, []}
use Prim.Native.Nat.{ℕ, zero, suc, ◌+◌, ◌-◌, ◌*◌, ◌≤◌, ◌<◌}
use native.Mathlib.Nat.{mul-le-mul}
use native.Mathlib.Omega.{arith}
use lib.ListN.{length, drop, get_or}
use lib.Seq.{slice, slice-cons, slice_empty, length-slice}
use borrow.Author.Tests.{le-leb, lt-leb, leb-true}
use Rattle.studio_rules.specs.Table.{Shape, fixed, name, counted, each, named_words, named}
use Rattle.studio_rules.specs.OwnData.{name_size, count, own_size, has_name, name_fits}
use Rattle.shared_numbers.specs.Numbers.{word_at}
use Rattle.shared_numbers.proofs.Slices.{word_slice, drop-slice}
use Rattle.studio_names.specs.Names.{fit_size}
use Rattle.studio_names.proofs.Fits.{fitted, unfitted}
use Rattle.studio_row.specs.Packed.{kind_in, size_in, shape_from, shape_in}
use Rattle.studio_own_size.specs.declared.Flaw.{Flaw}
use Rattle.studio_own_size.specs.declared.Flaw.TheVariants.{NoName, Unfit, TooLong}
use Rattle.studio_own_size.specs.Own.{Fitted, Fits, Exceeds, OwnIs, FitIs, CountIs}
use Rattle.std.specs.Prelude.{Result, Ok, Err}

-- a product of a byte and a word, which the code computes
pub product_small : (a b : ℕ) → a < 256 → b < 65536 → a * b ≤ 16711425
product_small a b h k = mul-le-mul {n₁ = a} {m₁ = b} {n₂ = 255} {m₂ = 65535} (omega arith) (omega arith)

-- ---- so many bytes, in the room of a body

module _ (sh : Shape) (around body : List ℕ) (k room : ℕ) (named : has_name sh body ≡ true) (is : own_size sh around body ≡ k) (all : length body ≡ room) where
  pub fitted-is : (r : Result ℕ Flaw) → Fitted k room r → OwnIs sh around body r
  fitted-is (Err NoName) h = absurd h
  fitted-is (Err Unfit) h = absurd h
  fitted-is (Err TooLong) h = record { named = named; beyond = omega arith }
  fitted-is (Ok n) h = record { named = named; is = h.0 ∙ sym is; within = omega arith }

module _ (s : List ℕ) (at stop : ℕ) (order : at ≤ stop) (end : stop ≤ length s) where
  body-length : length (slice at stop s) ≡ stop - at
  body-length = length-slice at stop s end

  pub fixed-is : (k : ℕ) (around : List ℕ) (r : Result ℕ Flaw) → Fitted k (stop - at) r → OwnIs (fixed k) around (slice at stop s) r
  fixed-is k around = fitted-is (fixed k) around (slice at stop s) k (stop - at) refl refl body-length

  pub each-is : (k n : ℕ) (around : List ℕ) → CountIs around n → (r : Result ℕ Flaw) → Fitted (k * n) (stop - at) r → OwnIs (each k) around (slice at stop s) r
  each-is k n around h = fitted-is (each k) around (slice at stop s) (k * n) (stop - at) refl (ap (λ (m : ℕ). k * m) (sym h.is)) body-length

  pub counted_is : (k w : ℕ) → 2 ≤ stop - at → w ≡ word_at s at → (r : Result ℕ Flaw) → Fitted (2 + k * w) (stop - at) r → OwnIs (counted k) [] (slice at stop s) r
  counted_is k w l e =
      fitted-is (counted k) [] (slice at stop s) (2 + k * w) (stop - at) refl (rw (word_slice at stop s (omega arith), e)) body-length

  pub counted-short : (k : ℕ) → stop - at < 2 → Exceeds (counted k) [] (slice at stop s)
  counted-short k l = record { named = refl; beyond = omega (arith, body-length) }

  pub name-is : (z : ℕ) → z ≡ name_size (slice at stop s) → z ≤ stop - at → Fits name [] (slice at stop s) z
  name-is z e l = record { named = le-leb (name_size (slice at stop s)) (length (slice at stop s)) (omega (arith, body-length)); is = e; within = omega (arith, body-length) }

  pub no_name : (sh : Shape) → has_name sh (slice at stop s) ≡ has_name name (slice at stop s) → (z : ℕ) → z ≡ name_size (slice at stop s) → stop - at < z → has_name sh (slice at stop s) ≡ false
  no_name sh same z e l = same ∙ lt-leb (name_size (slice at stop s)) (length (slice at stop s)) (omega (arith, body-length))

  -- the name that fits the label
  module _ (n : ℕ) (e : n ≡ fit_size (slice at stop s)) where
    pub label_is : (n ≡ 0 → ⊥) → FitIs name [] (slice at stop s) (Ok n)
    label_is some =
        let f = fitted (slice at stop s) (λ q. some (e ∙ q)) in
        (f.1, record { named = f.0; is = e ∙ f.2; within = omega (arith, e, f.2, leb-true (name_size (slice at stop s)) (length (slice at stop s)) f.0) })

    pub label_unfit : n ≡ 0 → (z : ℕ) → z ≡ name_size (slice at stop s) → z ≤ stop - at → FitIs name [] (slice at stop s) (Err Unfit)
    label_unfit none z f h = let has = (name-is z f h).named in (has, unfitted (slice at stop s) (sym e ∙ none) has)

  module _ (z : ℕ) (e : z ≡ name_size (slice at stop s)) (fits : z ≤ stop - at) where
    has : has_name named_words (slice at stop s) ≡ true
    has = le-leb (name_size (slice at stop s)) (length (slice at stop s)) (omega (arith, body-length))

    pub words_short : stop - at < z + 2 → Exceeds named_words [] (slice at stop s)
    words_short l = record { named = has; beyond = omega (arith, body-length) }

    -- the count word behind the name
    pub words_count : z + 2 ≤ stop - at → count (drop (name_size (slice at stop s)) (slice at stop s)) ≡ word_at s (at + z)
    words_count l = rw (← e, drop-slice z at stop s) (word_slice (at + z) stop s (omega arith))

    pub words_is : (w : ℕ) → z + 2 ≤ stop - at → w ≡ word_at s (at + z) → (r : Result ℕ Flaw) → Fitted (z + 2 + 2 * w) (stop - at) r → OwnIs named_words [] (slice at stop s) r
    words_is w l f =
        fitted-is named_words [] (slice at stop s) (z + 2 + 2 * w) (stop - at) has (omega (arith, words_count l)) body-length

    pub named-is : (k : ℕ) (r : Result ℕ Flaw) → Fitted (z + k) (stop - at) r → OwnIs (named k) [] (slice at stop s) r
    named-is k = fitted-is (named k) [] (slice at stop s) (z + k) (stop - at) has (omega arith) body-length

  -- ---- the count word of own data

  pub count_none : stop - at ≡ 0 → CountIs (slice at stop s) 0
  count_none l = let e : at ≡ stop = omega arith in record { is = rw (e, slice_empty stop s); small = omega arith }

  pub count-one : stop - at ≡ 1 → (b : ℕ) → b < 256 → b ≡ get_or s at 0 → CountIs (slice at stop s) b
  count-one l b h f =
      let e : suc at ≡ stop = omega arith in
      let t : slice (suc at) stop s ≡ [] = ap (λ (k : ℕ). slice k stop s) e ∙ slice_empty stop s in
      record { is = rw (slice-cons at stop s 0 (omega arith) end, t, ← f) (omega arith); small = omega arith }

  pub count_word : 2 ≤ stop - at → (w : ℕ) → w < 65536 → w ≡ word_at s at → CountIs (slice at stop s) w
  count_word l w h f = record { is = f ∙ sym (word_slice at stop s (omega arith)); small = h }

-- ---- a row's kind is its shape

module _ (row : ℕ) where
  pub kind-fixed : kind_in row ≡ 0 → shape_in row ≡ fixed (size_in row)
  unfolding shape_in
  kind-fixed e = rw e

  pub kind-name : kind_in row ≡ 1 → shape_in row ≡ name
  unfolding shape_in
  kind-name e = rw e

  pub kind-counted : kind_in row ≡ 2 → shape_in row ≡ counted (size_in row)
  unfolding shape_in
  kind-counted e = rw e

  pub kind-each : kind_in row ≡ 3 → shape_in row ≡ each (size_in row)
  unfolding shape_in
  kind-each e = rw e

  pub kind_words : kind_in row ≡ 4 → shape_in row ≡ named_words
  unfolding shape_in
  kind_words e = rw e

rest-named : (k n : ℕ) → (k ≡ 0 → ⊥) → (k ≡ 1 → ⊥) → (k ≡ 2 → ⊥) → (k ≡ 3 → ⊥) → (k ≡ 4 → ⊥) → shape_from k n ≡ named n
rest-named zero n a b c d e = absurd (a refl)
rest-named (suc zero) n a b c d e = absurd (b refl)
rest-named (suc (suc zero)) n a b c d e = absurd (c refl)
rest-named (suc (suc (suc zero))) n a b c d e = absurd (d refl)
rest-named (suc (suc (suc (suc zero)))) n a b c d e = absurd (e refl)
rest-named (suc (suc (suc (suc (suc k))))) n a b c d e = refl

pub kind-named : (row : ℕ) → (kind_in row ≡ 0 → ⊥) → (kind_in row ≡ 1 → ⊥) → (kind_in row ≡ 2 → ⊥) → (kind_in row ≡ 3 → ⊥) → (kind_in row ≡ 4 → ⊥) → shape_in row ≡ named (size_in row)
unfolding shape_in
kind-named row = rest-named (kind_in row) (size_in row)

-- ---- the name judged too

-- where there is no name, or it fits
pub name_fine : (sh : Shape) (around body : List ℕ) → name_fits sh body ≡ true → (r : Result ℕ Flaw) → OwnIs sh around body r → FitIs sh around body r
name_fine sh around body f (Err NoName) h = h
name_fine sh around body f (Err Unfit) h = absurd h
name_fine sh around body f (Err TooLong) h = (f, h)
name_fine sh around body f (Ok k) h = (f, h)

-- a fault of the name alone is one of a name with words, or bytes, behind it
pub name-of_words : (body : List ℕ) (x : Flaw) → FitIs name [] body (Err x) → FitIs named_words [] body (Err x)
name-of_words body NoName h = h
name-of_words body Unfit h = h
name-of_words body TooLong h = (h.0, record { named = h.1.named; beyond = omega (arith, h.1.beyond) })

pub name-of-named : (more : ℕ) (body : List ℕ) (x : Flaw) → FitIs name [] body (Err x) → FitIs (named more) [] body (Err x)
name-of-named more body NoName h = h
name-of-named more body Unfit h = h
name-of-named more body TooLong h = (h.0, record { named = h.1.named; beyond = omega (arith, h.1.beyond) })

-- own data that does not look at the chunk around
module _ (sh : Shape) (alike : (a b body : List ℕ) → own_size sh a body ≡ own_size sh b body) (around body : List ℕ) where
  exceeds_any : Exceeds sh [] body → Exceeds sh around body
  exceeds_any h = record { named = h.named; beyond = omega (arith, alike [] around body, h.beyond) }

  fits-any : (k : ℕ) → Fits sh [] body k → Fits sh around body k
  fits-any k h = record { named = h.named; is = h.is ∙ alike [] around body; within = h.within }

  pub around-any : (r : Result ℕ Flaw) → OwnIs sh [] body r → OwnIs sh around body r
  around-any (Err NoName) h = h
  around-any (Err Unfit) h = h
  around-any (Err TooLong) h = exceeds_any h
  around-any (Ok k) h = fits-any k h

  pub fit_any : (r : Result ℕ Flaw) → FitIs sh [] body r → FitIs sh around body r
  fit_any (Err NoName) h = h
  fit_any (Err Unfit) h = h
  fit_any (Err TooLong) h = (h.0, exceeds_any h.1)
  fit_any (Ok k) h = (h.0, fits-any k h.1)
