-- A name in a part of a list: at a zero it ends, at another byte it goes on.
use mathlib.Core.Path.{◌≡◌, refl, ap, ◌∙◌}
use mathlib.Core.Bool.{Bool, true, false, not, cond}
use Prim.Native.Nat.{ℕ, zero, suc, ◌+◌, ◌-◌, ◌<◌, ◌≤◌}
use native.Mathlib.Nat.{add-zero}
use native.Mathlib.Numerals.{add-one}
use native.Mathlib.Omega.{arith}
use mathlib.Core.List.{List, [], ◌∷◌}
use lib.Dec.{eqb}
use lib.ListN.{length, get_or, drop_of_length-le, length-take, take, drop}
use lib.Seq.{slice, slice-cons}
use borrow.Author.Tests.{eq-eqb, ne_eqb}
use Rattle.studio_rules.specs.OwnData.{name_size}
use Rattle.shared_words.specs.Lists.{first_fault}
use Rattle.shared_eights.specs.Eights.{nonzero}
use Rattle.shared_labels.proofs.Faults.{front-on, rest}
use Rattle.studio_names.specs.Names.{NoZero, NameOn}

pub name-here : (s : List ℕ) (i e : ℕ) → i < e → e ≤ length s → get_or s i 0 ≡ 0 → name_size (slice i e s) ≡ 1
name-here s i e h l z = rw (slice-cons i e s 0 h l, eq-eqb _ _ z)

pub name-on : (s : List ℕ) (i e : ℕ) → i < e → e ≤ length s → (get_or s i 0 ≡ 0 → ⊥) → name_size (slice i e s) ≡ name_size (slice (i + 1) e s) + 1
name-on s i e h l z = rw (slice-cons i e s 0 h l, ne_eqb _ _ z, add-one i) (omega arith)

pub name-nowhere : (s : List ℕ) (i e : ℕ) → e ≤ i → name_size (slice i e s) ≡ 1
name-nowhere s i e h = rw (drop_of_length-le (take e s) {i = i} (omega (arith, length-take e s)))

-- bytes that are not zero, one after the other
pub name-past : (s : List ℕ) (n i e : ℕ) → NoZero s i n → i + n ≤ e → e ≤ length s → name_size (slice i e s) ≡ name_size (slice (i + n) e s) + n
name-past s zero i e z h l =
    let q : i ≡ i + 0 = omega arith in
    ap (λ (k : ℕ). name_size (slice k e s)) q ∙ omega arith
name-past s (suc n) i e z h l =
    let q : i + 1 + n ≡ i + suc n = omega arith in
    let first : get_or s i 0 ≡ 0 → ⊥ = λ f. z 0 (omega arith) (ap (λ (k : ℕ). get_or s k 0) (add-zero i) ∙ f) in
    let rest : NoZero s (i + 1) n = λ j k f. z (suc j) (omega arith) (ap (λ (m : ℕ). get_or s m 0) (omega arith) ∙ f) in
    let r = name-past s n (i + 1) e rest (omega arith) l in
    name-on s i e (omega arith) l first ∙ omega (arith, r, ap (λ (k : ℕ). name_size (slice k e s)) q)

-- ---- eight at a time

name-fault : (s : List ℕ) → name_size s ≡ first_fault nonzero s + 1
name-fault [] = refl
name-fault (b ∷ s) = go (eqb b 0) (name-fault s)
  where
    go : (z : Bool) → name_size s ≡ first_fault nonzero s + 1 → cond z 1 (suc (name_size s)) ≡ cond (not z) (suc (first_fault nonzero s)) 0 + 1
    go true ih = refl
    go false ih = omega (arith, ih)

module _ (s : List ℕ) (at i end n : ℕ) where
  -- one stretch behind the other
  pub name-both : NameOn s at i end → NameOn s i n end → NameOn s at n end
  name-both h k = record { from = omega arith; to = omega arith; on = omega (arith, h.on, k.on) }

  pub name-eight : NameOn s at i end → i + 8 ≤ end → n ≡ first_fault nonzero (take 8 (take (length s - i) (drop i s))) → (n ≤ 8) × NameOn s at (i + n) end
  name-eight h l e =
      let f = front-on nonzero s i end n l (rw (rest s i) at e) in
      (f.0, record { from = omega arith; to = omega arith; on = omega (arith, h.on, f.1, name-fault (slice i end s), name-fault (slice (i + n) end s)) })
