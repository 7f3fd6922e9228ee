-- A name in a body, by how much of the body a label takes: it fits exactly where its zero stands right behind that.
use mathlib.Core.Path.{◌≡◌, refl, ap, ◌∙◌}
use Prim.Native.Nat.{ℕ, zero, suc, ◌+◌, ◌<◌, ◌≤◌}
use native.Mathlib.Omega.{arith}
use mathlib.Core.Bool.{Bool, true, false, cond}
use mathlib.Core.List.{List, [], ◌∷◌}
use lib.Dec.{eqb}
use lib.ListN.{length, get_or}
use borrow.Author.Tests.{eqb-true, eq-eqb, ne_eqb}
use Rattle.shared_words.specs.Lists.{first_fault}
use Rattle.shared_words.specs.Labels.{printable, fits_label, label_fault}
use Rattle.shared_words.proofs.FirstFault.{fault-within}
use Rattle.shared_words.proofs.Labels.{label_exactly}
use Rattle.studio_rules.specs.OwnData.{name_size, text}

-- ---- the text of a name

text-size : (s : List ℕ) → suc (length (text s)) ≡ name_size s
text-size [] = refl
text-size (b ∷ s) = go (eqb b 0) (text-size s)
  where
    go : (z : Bool) → suc (length (text s)) ≡ name_size s → suc (length (cond z [] (b ∷ text s))) ≡ cond z 1 (suc (name_size s))
    go true ih = refl
    go false ih = omega arith

-- a zero is not printable, so the first fault is the same
text-fault : (s : List ℕ) → first_fault printable (text s) ≡ first_fault printable s
text-fault [] = refl
text-fault (b ∷ s) = go (eqb b 0) refl (text-fault s)
  where
    go : (z : Bool) → eqb b 0 ≡ z → first_fault printable (text s) ≡ first_fault printable s →
        first_fault printable (cond z [] (b ∷ text s)) ≡ cond (printable b) (suc (first_fault printable s)) 0
    go true e ih = let z : b ≡ 0 = eqb-true _ _ e in rw z
    go false e ih = rw ih

pub fault-before : (s : List ℕ) → first_fault printable s < name_size s
fault-before s = omega (arith, text-size s, text-fault s, fault-within printable (text s))

-- ---- its zero

zero-ends : (s : List ℕ) (n : ℕ) → n < length s → get_or s n 0 ≡ 0 → name_size s ≤ n + 1
zero-ends [] n l z = absurd (omega arith)
zero-ends (b ∷ s) zero l z = rw (eq-eqb b 0 z) (omega arith)
zero-ends (b ∷ s) (suc n) l z = go (eqb b 0) (zero-ends s n (omega arith) z)
  where
    go : (e : Bool) → name_size s ≤ n + 1 → cond e 1 (suc (name_size s)) ≤ suc n + 1
    go true ih = omega arith
    go false ih = omega arith

zero-there : (s : List ℕ) (n : ℕ) → name_size s ≡ n + 1 → n < length s → get_or s n 0 ≡ 0
zero-there [] n e l = absurd (omega arith)
zero-there (b ∷ s) n e l = go (eqb b 0) refl (zero-there s) n e l
  where
    go : (z : Bool) → eqb b 0 ≡ z → ((n : ℕ) → name_size s ≡ n + 1 → n < length s → get_or s n 0 ≡ 0) → (n : ℕ) →
        cond z 1 (suc (name_size s)) ≡ n + 1 → n < suc (length s) → get_or (b ∷ s) n 0 ≡ 0
    go true q ih zero e l = eqb-true _ _ q
    go true q ih (suc n) e l = absurd (omega arith)
    go false q ih zero e l = absurd (omega (arith, fault-before s))
    go false q ih (suc n) e l = ih n (omega arith) (omega arith)

-- ---- a body, of which a label takes n bytes

module _ (s : List ℕ) (n : ℕ) (e : n ≡ label_fault s) where
  text_exactly : fits_label (text s) ≡ eqb n (length (text s))
  text_exactly = label_exactly (text s) ∙ ap (λ (k : ℕ). eqb k (length (text s))) (omega (arith, text-fault s))

  module _ (l : n < length s) (z : get_or s n 0 ≡ 0) where
    pub fit_size_lem : name_size s ≡ n + 1
    fit_size_lem = omega (arith, zero-ends s n l z, fault-before s)

    pub fit_text : fits_label (text s) ≡ true
    fit_text = text_exactly ∙ eq-eqb n (length (text s)) (omega (arith, text-size s, fit_size_lem))

  -- another byte there
  pub unfit_text : (get_or s n 0 ≡ 0 → ⊥) → name_size s ≤ length s → fits_label (text s) ≡ false
  unfit_text other h =
      text_exactly ∙ ne_eqb n (length (text s)) (λ q. other (zero-there s n (omega (arith, text-size s)) (omega (arith, text-size s))))

  -- nothing there
  pub no_zero : n ≡ length s → length s < name_size s
  no_zero l = omega (arith, fault-before s)
