-- A name that must fit the label, by the first byte that is not printable: it fits exactly where that is its zero, and at most the
-- 64th byte.
use mathlib.Core.Path.{◌≡◌, refl, sym, ap, ◌∙◌}
use mathlib.Core.Bool.{Bool, true, false, ◌&&◌, cond, false≢true}
use Prim.Native.Nat.{ℕ, zero, suc, ◌+◌, ◌-◌, ◌*◌, ◌/◌, ◌≤◌, ◌<◌, min}
use native.Mathlib.Nat.{zero-mul, one-mul}
use native.Mathlib.Omega.{arith}
use mathlib.Core.List.{List, [], ◌∷◌}
use lib.Dec.{leb, ltb}
use lib.ListN.{length, take, drop, get_or}
use lib.Seq.{slice, length-slice, get_or-take, get_or-drop, drop-drop, take_all}
use borrow.Author.Tests.{le-leb, leb-true, ltb-true, ltb-false}
use Rattle.shared_words.specs.Lists.{first_fault}
use Rattle.shared_words.specs.Labels.{printable, fits_label, label_fault}
use Rattle.shared_words.proofs.FirstFault.{fault-take}
use Rattle.shared_numbers.proofs.Slices.{drop-take}
use Rattle.shared_labels.proofs.Faults.{fault-drop, rest}
use Rattle.studio_rules.specs.Table.{name}
use Rattle.studio_rules.specs.OwnData.{name_size, text, has_name, name_fits}
use Rattle.studio_names.specs.Names.{fit_size, Printable}
use Rattle.studio_names.proofs.Labels.{fault-before, fit_size_lem, fit_text, unfit_text}

-- ---- a body, of which a label takes n bytes

module _ (t : List ℕ) (n : ℕ) (e : n ≡ label_fault t) where
  fit_is : n < length t → get_or t n 0 ≡ 0 → n + 1 ≡ fit_size t
  unfolding fit_size
  fit_is l z =
      let size = fit_size_lem t n e l z in
      let has : has_name name t ≡ true = le-leb (name_size t) (length t) (omega arith) in
      rw (has, fit_text t n e l z) (sym size)

  fit_none : (n < length t → get_or t n 0 ≡ 0 → ⊥) → 0 ≡ fit_size t
  unfolding fit_size
  fit_none other = go (leb (name_size t) (length t)) refl
    where
      go : (b : Bool) → leb (name_size t) (length t) ≡ b → 0 ≡ cond (b && fits_label (text t)) (name_size t) 0
      go true q =
          let h = leb-true (name_size t) (length t) q in
          let u = unfit_text t n e (other (omega (arith, fault-before t))) h in
          rw u
      go false q = refl

-- ---- what the size says of the name

pub fitted : (t : List ℕ) → (fit_size t ≡ 0 → ⊥) → (has_name name t ≡ true) × (name_fits name t ≡ true) × (fit_size t ≡ name_size t)
unfolding fit_size
fitted t h = go (has_name name t) (name_fits name t) refl refl h
  where
    go : (a b : Bool) → has_name name t ≡ a → name_fits name t ≡ b → (cond (a && b) (name_size t) 0 ≡ 0 → ⊥) →
        (has_name name t ≡ true) × (name_fits name t ≡ true) × (cond (has_name name t && name_fits name t) (name_size t) 0 ≡ name_size t)
    go true true p q h = (p, q, rw (p, q))
    go true false p q h = absurd (h refl)
    go false b p q h = absurd (h refl)

name-some : (t : List ℕ) → name_size t ≡ 0 → ⊥
name-some t e = omega (arith, e, fault-before t)

pub unfitted : (t : List ℕ) → fit_size t ≡ 0 → has_name name t ≡ true → name_fits name t ≡ false
unfolding fit_size
unfitted t e p = go (name_fits name t) (rw p at e)
  where
    go : (b : Bool) → cond (true && b) (name_size t) 0 ≡ 0 → b ≡ false
    go true q = absurd (name-some t q)
    go false q = refl

-- ---- a part of a list, by the first byte in it, or behind it, that is not printable

before : (xs : List ℕ) (k : ℕ) → k < first_fault printable xs → printable (get_or xs k 0) ≡ true
before [] k h = absurd (omega arith)
before (x ∷ xs) k h = go (printable x) refl (before xs) k h
  where
    go : (b : Bool) → printable x ≡ b → ((k : ℕ) → k < first_fault printable xs → printable (get_or xs k 0) ≡ true) →
        (k : ℕ) → k < cond b (suc (first_fault printable xs)) 0 → printable (get_or (x ∷ xs) k 0) ≡ true
    go true e ih zero h = e
    go true e ih (suc k) h = ih k (omega arith)
    go false e ih k h = absurd (omega arith)

module _ (s : List ℕ) (at stop : ℕ) (order : at ≤ stop) (within : stop ≤ length s) where
  abbrev first : ℕ
  first = first_fault printable (drop at s)

  abbrev body : List ℕ
  body = slice at stop s

  body-first : first_fault printable body ≡ min first (stop - at)
  body-first =
      let q : stop ≡ at + (stop - at) = omega arith in
      ap (λ (e : ℕ). first_fault printable (slice at e s)) q ∙ ap (first_fault printable) (drop-take at (stop - at) s) ∙
      fault-take printable (stop - at) (drop at s)

  byte : (n : ℕ) → n < stop - at → get_or body n 0 ≡ get_or s (at + n) 0
  byte n l = get_or-drop at (take stop s) n 0 ∙ get_or-take stop s (at + n) 0 (omega arith)

  zero-first : (k : ℕ) → k ≤ first → get_or s (at + k) 0 ≡ 0 → k ≡ first
  zero-first k h z = go (ltb k first) refl
    where
      go : (b : Bool) → ltb k first ≡ b → k ≡ first
      go true q =
          let p = before (drop at s) k (ltb-true k first q) in
          absurd (false≢true (sym (ap printable (get_or-drop at s k 0 ∙ z)) ∙ p))
      go false q = omega (arith, ltb-false k first q)

  pub fit_here : (k : ℕ) → k ≤ first → k < stop - at → k ≤ 63 → get_or s (at + k) 0 ≡ 0 → k + 1 ≡ fit_size body
  fit_here k h l m z =
      let e = zero-first k h z in
      let f = body-first in
      fit_is body k (omega arith) (omega (arith, length-slice at stop s within)) (byte k l ∙ z)

  pub fit_nowhere : (first < stop - at → first ≤ 63 → get_or s (at + first) 0 ≡ 0 → ⊥) → 0 ≡ fit_size body
  fit_nowhere other =
      let f = body-first in
      let n : ℕ = label_fault body in
      let c : n ≡ min (min first (stop - at)) 63 = omega arith in
      fit_none body n refl
      (λ l z.
      let k : n < stop - at = omega (arith, length-slice at stop s within) in
      let z2 = sym (byte n k) ∙ z in
      let q = zero-first n (omega arith) z2 in
      other (omega arith) (omega arith) (ap (λ (m : ℕ). get_or s (at + m) 0) (sym q) ∙ z2))

  -- printable bytes up to `from`, and so many more up to `end`
  pub further : (from end : ℕ) → at ≤ from → from ≤ end → end ≤ length s → from - at ≤ first → (from - at) + first_fault printable (slice from end s) ≡ min first (end - at)
  further from end a l h p =
      let q : end ≡ from + (end - from) = omega arith in
      let r : at + (from - at) ≡ from = omega arith in
      let x : first_fault printable (slice from end s) ≡ min (first_fault printable (drop from s)) (end - from) =
      ap (λ (e : ℕ). first_fault printable (slice from e s)) q ∙ ap (first_fault printable) (drop-take from (end - from) s) ∙
      fault-take printable (end - from) (drop from s) in
      let y : first_fault printable (drop (from - at) (drop at s)) ≡ first_fault printable (drop from s) =
      ap (first_fault printable) (drop-drop (from - at) at s ∙ ap (λ (m : ℕ). drop m s) r) in
      omega (arith, x, y, fault-drop printable (from - at) (drop at s) p)

-- ---- the bytes that are looked at first

module _ (s : List ℕ) (at stop : ℕ) (order : at ≤ stop) (within : stop ≤ length s) where
  pub none_first : Printable s at at stop
  none_first = record { order = order; within = within; start = omega arith; near = omega arith; on = omega arith }

  front : (n : ℕ) → n ≡ first_fault printable (take 8 (take (length s - at) (drop at s))) → n ≡ min (first s at stop order within) 8
  front n e = e ∙ ap (λ (l : List ℕ). first_fault printable (take 8 l)) (rest s at) ∙ fault-take printable 8 (drop at s)

  pub eight-first : (n : ℕ) → n ≡ first_fault printable (take 8 (take (length s - at) (drop at s))) → (n ≤ 8) × Printable s at (at + n) stop
  eight-first n e = let m = front n e in (omega arith, record { order = order; within = within; start = omega arith; near = omega arith; on = omega arith })

  pub sixteen_first : (n m : ℕ) → n ≡ first_fault printable (take 8 (take (length s - at) (drop at s))) →
      m ≡ first_fault printable (take 8 (take (length s - (at + 8)) (drop (at + 8) s))) → (n ≤ 8) × (m ≤ 8) × (n / 8 * m ≤ 8) × Printable s at (at + n + n / 8 * m) stop
  sixteen_first n m e f = go (ltb n 8) refl
    where
      a : n ≡ min (first s at stop order within) 8
      a = front n e

      b : m ≡ min (first_fault printable (drop (at + 8) s)) 8
      b = f ∙ ap (λ (l : List ℕ). first_fault printable (take 8 l)) (rest s (at + 8)) ∙ fault-take printable 8 (drop (at + 8) s)

      go : (q : Bool) → ltb n 8 ≡ q → (n ≤ 8) × (m ≤ 8) × (n / 8 * m ≤ 8) × Printable s at (at + n + n / 8 * m) stop
      go true q =
          let l = ltb-true n 8 q in
          let none : n / 8 * m ≡ 0 = ap (λ (x : ℕ). x * m) (omega arith) ∙ zero-mul m in
          (omega (arith, a), omega (arith, b), omega arith, record { order = order; within = within; start = omega arith; near = omega (arith, a); on = omega (arith, a) })
      go false q =
          let l = ltb-false n 8 q in
          let all : n ≡ 8 = omega (arith, a) in
          let one : n / 8 * m ≡ m = ap (λ (x : ℕ). x * m) (omega arith) ∙ one-mul m in
          let p = fault-drop printable 8 (drop at s) (omega (arith, a)) in
          let d = ap (first_fault printable) (drop-drop 8 at s) in
          (omega (arith, a), omega (arith, b), omega (arith, b), record { order = order; within = within; start = omega arith; near = omega (arith, a, b); on = omega (arith, a, b, p, d) })

-- ---- the steps of a long name

module _ (s : List ℕ) (at from stop end : ℕ) (p : Printable s at from stop) (q : end ≡ min stop (at + 64)) where
  pub from-behind : end < from → 0 ≡ fit_size (slice at stop s)
  from-behind h = let o = p.on in fit_nowhere s at stop p.order p.within (λ l m z. omega (arith, p.near))

  module _ (n : ℕ) (order : from ≤ end) (e : n ≡ first_fault printable (slice from end (take (length s - 0) s))) where
    reach : (from - at) + n ≡ min (first_fault printable (drop at s)) (end - at)
    reach =
        let w : n ≡ first_fault printable (slice from end s) = rw (take_all (length s - 0) s (omega arith)) at e in
        omega (arith, w, further s at stop p.order p.within from end p.start order (omega (arith, p.within)) p.on)

    pub reached : from + n ≤ length s
    reached = omega (arith, reach, p.within, p.start)

    pub at-end : end ≤ from + n → 0 ≡ fit_size (slice at stop s)
    at-end h = fit_nowhere s at stop p.order p.within (λ l m z. omega (arith, reach, p.start))

    module _ (h : from + n < end) where
      same : at + first_fault printable (drop at s) ≡ from + n
      same = omega (arith, reach, p.start)

      pub other_byte : (get_or s (from + n) 0 ≡ 0 → ⊥) → 0 ≡ fit_size (slice at stop s)
      other_byte o = fit_nowhere s at stop p.order p.within (λ l m z. o (ap (λ (k : ℕ). get_or s k 0) (sym same) ∙ z))

      pub zero_byte : get_or s (from + n) 0 ≡ 0 → (from + n + 1) - at ≡ fit_size (slice at stop s)
      zero_byte z =
          let k : ℕ = first_fault printable (drop at s) in
          let f = fit_here s at stop p.order p.within k (omega arith) (omega (arith, same)) (omega (arith, same)) (ap (λ (i : ℕ). get_or s i 0) same ∙ z) in
          omega (arith, f, same)
