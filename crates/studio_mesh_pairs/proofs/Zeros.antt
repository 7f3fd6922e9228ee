-- Zeros in a row behind what is filled: once, for a row of any elements.
use mathlib.Core.Path.{◌≡◌, refl, sym, ap, ◌∙◌}
use mathlib.Core.List.{List, [], ◌∷◌, ◌++◌, map, append_assoc, append-nil, map-append}
use Prim.Native.Nat.{ℕ, zero, suc, ◌+◌, ◌-◌, ◌*◌, ◌≤◌, ◌<◌}
use native.Mathlib.Omega.{arith}
use lib.Ieee.{Float}
use lib.ListN.{length, set, take, drop, replicate, length-append, length-map, length-replicate, take-append-drop}
use lib.Seq.{take_at, drop_at, drop-drop, length-take-le}
use Rattle.shared_words.specs.Bytes.{packed}
use Rattle.shared_words.specs.Floats.{float}
use Rattle.shared_words.specs.Effects.{filled}
use Rattle.shared_words.proofs.Effects.{fill-at}
use Rattle.shared_words.proofs.Bytes.{length-packed, packed_append}
use Rattle.studio_rules.specs.Gives.{filled_up}

-- filled again, and more
filled-again : {A : Type 0} (new more row : List A) → filled (new ++ more) (filled new row) ≡ filled (new ++ more) row
filled-again {A} new more row =
    let n : length (new ++ more) ≡ length new + length more = length-append new more in
    ap (λ (l : List A). (new ++ more) ++ l)
    (ap (λ (k : ℕ). drop k (filled new row)) n ∙ sym (drop-drop (length more) (length new) (filled new row)) ∙ ap (drop (length more)) (drop_at new (drop (length new) row) (length new) refl) ∙
    drop-drop (length more) (length new) row ∙ ap (λ (k : ℕ). drop k row) (sym n))

module _ {A : Type 0} (z : A) where
  -- a row with zeros from a position to another
  abbrev pub zeroed : ℕ → ℕ → List A → List A
  zeroed from to row = filled (take from row ++ replicate (to - from) z) row

  pub none_yet : (from : ℕ) (row : List A) → from ≤ length row → row ≡ zeroed from from row
  none_yet from row h =
      let e : from - from ≡ 0 = omega arith in
      let n : length (take from row) ≡ from = length-take-le from row h in
      rw (e, append-nil (take from row), n) (sym (take-append-drop from row))

  snoc : (k : ℕ) → replicate k z ++ (z ∷ []) ≡ replicate (suc k) z
  snoc zero = refl
  snoc (suc k) = ap (λ (l : List A). z ∷ l) (snoc k)

  pub one_more : (from i : ℕ) (row : List A) → from ≤ i → i < length row → set (zeroed from i row) i z ≡ zeroed from (i + 1) row
  one_more from i row h l =
      let new = take from row ++ replicate (i - from) z in
      let n : length (take from row ++ replicate (i - from) z) ≡ i = length-append (take from row) (replicate (i - from) z) ∙ omega (arith, length-take-le from row (omega arith), length-replicate {A = A} (i - from) z) in
      let e : i + 1 - from ≡ suc (i - from) = omega arith in
      fill-at new row z i n l ∙ rw (e, append_assoc (take from row) (replicate (i - from) z) (z ∷ []), snoc (i - from))

  pub zeros-behind : (new row : List A) (from to : ℕ) → length new ≡ from → zeroed from to (filled new row) ≡ filled (new ++ replicate (to - from) z) row
  zeros-behind new row from to e = rw (take_at new (drop (length new) row) from e) (filled-again new (replicate (to - from) z) row)

-- ---- the numbers of a mapping, as they stand in a row

map-replicate : {A B : Type 0} (f : A → B) (k : ℕ) (x : A) → map f (replicate k x) ≡ replicate k (f x)
map-replicate f zero x = refl
map-replicate f (suc k) x = ap (λ (l : List _). f x ∷ l) (map-replicate f k x)

pub floats-filled-up : (n : ℕ) (xs : List ℕ) → map float (filled_up n xs) ≡ map float xs ++ replicate (n - length xs) (float 0)
floats-filled-up n xs = map-append float xs (replicate (n - length xs) 0) ∙ ap (λ (l : List _). map float xs ++ l) (map-replicate float (n - length xs) 0)

packed-zeros : (k : ℕ) → packed 4 (replicate k 0) ≡ replicate (4 * k) 0
packed-zeros zero = refl
packed-zeros (suc k) =
    let e : 4 * suc k ≡ suc (suc (suc (suc (4 * k)))) = omega arith in
    rw (e, packed-zeros k)

pub bytes-filled-up : (n : ℕ) (xs : List ℕ) → packed 4 (filled_up n xs) ≡ packed 4 xs ++ replicate (4 * (n - length xs)) 0
bytes-filled-up n xs = packed_append 4 xs (replicate (n - length xs) 0) ∙ ap (λ (l : List ℕ). packed 4 xs ++ l) (packed-zeros (n - length xs))

-- ---- what is filled and then zeroed

pub pairs-filled : (xs : List ℕ) (row row₁ row₂ : List Float) (k n : ℕ) → length xs ≡ k → row₁ ≡ filled (map float xs) row → row₂ ≡ zeroed (float 0) k n row₁ →
    row₂ ≡ filled (map float (filled_up n xs)) row
pairs-filled xs row row₁ row₂ k n e a b =
    b ∙ ap (zeroed (float 0) k n) a ∙ zeros-behind (float 0) (map float xs) row k n (length-map xs float ∙ e) ∙
    ap (λ (j : ℕ). filled (map float xs ++ replicate (n - j) (float 0)) row) (sym e) ∙ ap (λ (l : List Float). filled l row) (sym (floats-filled-up n xs))

pub pair_bytes_filled : (xs row row₁ row₂ : List ℕ) (k n from to : ℕ) → length xs ≡ k → from ≡ 4 * k → to ≡ 4 * n → row₁ ≡ filled (packed 4 xs) row → row₂ ≡ zeroed 0 from to row₁ →
    row₂ ≡ filled (packed 4 (filled_up n xs)) row
pair_bytes_filled xs row row₁ row₂ k n from to e f g a b =
    let j : to - from ≡ 4 * (n - length xs) = omega arith in
    b ∙ ap (zeroed 0 from to) a ∙ zeros-behind 0 (packed 4 xs) row from to (length-packed 4 xs ∙ omega arith) ∙
    ap (λ (i : ℕ). filled (packed 4 xs ++ replicate i 0) row) j ∙ ap (λ (l : List ℕ). filled l row) (sym (bytes-filled-up n xs))
