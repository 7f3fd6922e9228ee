-- The first fault in a part of a list: at a bad byte it is there, at a printable one it is further on, and eight at a time.
use mathlib.Core.Path.{◌≡◌, sym, ap, ◌∙◌}
use mathlib.Core.Bool.{Bool, true, false, cond}
use Prim.Native.Nat.{ℕ, zero, suc, ◌+◌, ◌-◌, ◌<◌, ◌≤◌, min}
use native.Mathlib.Numerals.{add-one}
use native.Mathlib.Omega.{arith}
use mathlib.Core.List.{List, [], ◌∷◌}
use lib.ListN.{length, get_or, drop_of_length-le, length-take, length-drop, take, drop}
use lib.Seq.{slice, slice-cons, take_all}
use Rattle.shared_words.specs.Lists.{first_fault}
use Rattle.shared_words.specs.Labels.{printable}
use Rattle.shared_words.proofs.FirstFault.{fault-take}
use Rattle.shared_numbers.proofs.Slices.{drop-slice, front-slice}
use Rattle.shared_labels.specs.Passed.{AllPrintable, FitsOn}

module _ (s : List ℕ) where
  pub fault-here : (i e : ℕ) → i < e → e ≤ length s → printable (get_or s i 0) ≡ false → first_fault printable (slice i e s) ≡ 0
  fault-here i e h l b = rw (slice-cons i e s 0 h l, b)

  pub fault-on : (i e : ℕ) → i < e → e ≤ length s → printable (get_or s i 0) ≡ true → first_fault printable (slice i e s) ≡ first_fault printable (slice (i + 1) e s) + 1
  fault-on i e h l b = rw (slice-cons i e s 0 h l, b, add-one i) (omega arith)

  pub fault-nowhere : (i e : ℕ) → e ≤ i → first_fault printable (slice i e s) ≡ 0
  fault-nowhere i e h = rw (drop_of_length-le (take e s) {i = i} (omega (arith, length-take e s)))

  -- printable bytes, one after the other
  pub fault_past : (n i e : ℕ) → AllPrintable s i n → i + n ≤ e → e ≤ length s → first_fault printable (slice i e s) ≡ first_fault printable (slice (i + n) e s) + n
  fault_past zero i e z h l =
      let q : i ≡ i + 0 = omega arith in
      ap (λ (k : ℕ). first_fault printable (slice k e s)) q ∙ omega arith
  fault_past (suc n) i e z h l =
      let q : i + 1 + n ≡ i + suc n = omega arith in
      let first : printable (get_or s i 0) ≡ true = ap (λ (k : ℕ). printable (get_or s k 0)) (omega arith) ∙ z 0 (omega arith) in
      let rest : AllPrintable s (i + 1) n = λ j k. ap (λ (m : ℕ). printable (get_or s m 0)) (omega arith) ∙ z (suc j) (omega arith) in
      let r = fault_past n (i + 1) e rest (omega arith) l in
      fault-on i e (omega arith) l first ∙ omega (arith, r, ap (λ (k : ℕ). first_fault printable (slice k e s)) q)

-- ---- by any test

module _ {A : Type 0} (good : A → Bool) where
  -- elements before the first fault, passed over
  pub fault-drop : (n : ℕ) (xs : List A) → n ≤ first_fault good xs → first_fault good xs ≡ n + first_fault good (drop n xs)
  fault-drop zero xs h = omega arith
  fault-drop (suc n) [] h = absurd (omega arith)
  fault-drop (suc n) (x ∷ xs) h = go (good x) (fault-drop n xs) h
    where
      go : (b : Bool) → (n ≤ first_fault good xs → first_fault good xs ≡ n + first_fault good (drop n xs)) → suc n ≤ cond b (suc (first_fault good xs)) 0 →
          cond b (suc (first_fault good xs)) 0 ≡ suc n + first_fault good (drop n xs)
      go true ih h = omega (arith, ih (omega arith))
      go false ih h = absurd (omega arith)

-- of the eight bytes at i, those before the first fault
pub front-on : (good : ℕ → Bool) (s : List ℕ) (i e n : ℕ) → i + 8 ≤ e → n ≡ first_fault good (take 8 (drop i s)) →
    (n ≤ 8) × (first_fault good (slice i e s) ≡ n + first_fault good (slice (i + n) e s))
front-on good s i e n h q =
    let m : n ≡ min (first_fault good (slice i e s)) 8 = q ∙ ap (first_fault good) (sym (front-slice 8 i e s h)) ∙ fault-take good 8 (slice i e s) in
    (omega arith, fault-drop good n (slice i e s) (omega arith) ∙ ap (λ (l : List ℕ). n + first_fault good l) (drop-slice n i e s))

-- the rest of a slice from i on is all that there is
pub rest : (s : List ℕ) (i : ℕ) → take (length s - i) (drop i s) ≡ drop i s
rest s i = take_all (length s - i) (drop i s) (omega (arith, length-drop i s))

module _ (s : List ℕ) (at i end n : ℕ) where
  -- one stretch behind the other
  pub fits_both : FitsOn s at i end → FitsOn s i n end → FitsOn s at n end
  fits_both h k = record { from = omega arith; to = omega arith; on = omega (arith, h.on, k.on) }

  pub fits-eight : FitsOn s at i end → i + 8 ≤ end → n ≡ first_fault printable (take 8 (take (length s - i) (drop i s))) → (n ≤ 8) × FitsOn s at (i + n) end
  fits-eight h l e =
      let f = front-on printable s i end n l (rw (rest s i) at e) in
      (f.0, record { from = omega arith; to = omega arith; on = omega (arith, h.on, f.1) })
