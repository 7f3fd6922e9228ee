-- Floats of 32 bits and their bits: a float that is neither infinite nor not a number has a finite pattern, which is read
-- back as that float; and the other way round.
use mathlib.Core.Path.{◌≡◌, refl, sym, ap, ◌∙◌, subst}
use Prim.Native.Nat.{ℕ, zero, suc, ◌+◌, ◌/◌, ◌%◌, ◌^◌, ◌<◌}
use native.Mathlib.Omega.{arith}
use mathlib.Core.Bool.{Bool, true, false, not, cond}
use mathlib.Core.List.{List, [], ◌∷◌, map}
use lib.Dec.{T, eqb, leb, ltb}
use lib.Ieee.{Float, nan, inf, binary32, fits, odd, of_fields, of_bits, to_bits}
use lib.Ieee.Bits.{of_bits-to_bits, to_bits-lt, to_bits-of_bits}
use borrow.Author.Tests.{eqb-true, eqb-false, ne_eqb, lt-ltb, ltb-true}
use Rattle.shared_words.specs.Lists.{every}
use Rattle.shared_words.specs.Floats.{finite}
use Rattle.studio_rules.specs.Rules.{all_below}
use Rattle.shared_words.specs.Floats.{float}
use Rattle.shared_words.proofs.Bools.{both, and_parts}
use Rattle.studio_write_judge.specs.Judged.{finite_float}
use Rattle.studio_write_bytes.proofs.Floats.{not-nan}
use Rattle.studio_write.specs.ReadsBack.{Floats32}
use Rattle.studio_write.specs.Finite.{SameTest}

abbrev pub bits : Float → ℕ
bits x = to_bits binary32 x

-- ---- the exponent's field, as the logic takes it from the bits

all_ones : (s : Bool) (t : ℕ) → finite_float (of_fields binary32 s 255 t) ≡ false
unfolding of_fields
all_ones s t = go (eqb t 0)
  where
    go : (z : Bool) → finite_float (cond z (inf s) nan) ≡ false
    go true = refl
    go false = refl

odd-finite : (d : ℕ) (s : Bool) (q k l : ℕ) → finite_float (odd d s q k l) ≡ true
unfolding odd
odd-finite d s zero k l = refl
odd-finite d s (suc q) k l = refl

not-all_ones : (s : Bool) (x t : ℕ) → eqb x 255 ≡ false → finite_float (of_fields binary32 s x t) ≡ true
unfolding of_fields
not-all_ones s zero t h = odd-finite 24 s t 0 149
not-all_ones s (suc x) t h = rw h (odd-finite 24 s (8388608 + t) x 149)

-- a pattern and its float are finite together
pub finite-float : SameTest
unfolding finite of_bits
finite-float b = go (eqb (b / 8388608 % 256) 255) refl
  where
    go : (e : Bool) → eqb (b / 8388608 % 256) 255 ≡ e → finite_float (float b) ≡ not e
    go true e =
        let h : b / 8388608 % 256 ≡ 255 = eqb-true _ _ e in
        let f : b % 2147483648 / 8388608 ≡ 255 = omega arith in
        rw f (all_ones (leb 2147483648 b) (b % 8388608))
    go false e =
        not-all_ones (leb 2147483648 b) (b % 2147483648 / 8388608) (b % 8388608)
        (ne_eqb _ _ (λ (p : b % 2147483648 / 8388608 ≡ 255). eqb-false (b / 8388608 % 256) 255 e (omega arith)))

-- ---- one float

module _ (x : Float) (f : T (fits binary32 x)) where
  pub float-bits : float (bits x) ≡ x
  float-bits = of_bits-to_bits binary32 x f

  pub bits_small : bits x < 256 ^ 4
  bits_small = to_bits-lt binary32 x f

  pub bits-finite : finite_float x ≡ true → finite (bits x) ≡ true
  bits-finite h = sym (finite-float (bits x)) ∙ ap finite_float float-bits ∙ h

-- ---- one pattern

pub bits-float : (b : ℕ) → b < 2 ^ 32 → finite b ≡ true → bits (float b) ≡ b
bits-float b l h = to_bits-of_bits binary32 b l (not-nan (float b) (finite-float b ∙ h))

-- ---- rows

pub parts : (x : Float) (xs : List Float) → Floats32 (x ∷ xs) → T (fits binary32 x) × Floats32 xs
unfolding every
parts x xs f = let p = and_parts (fits binary32 x) (every (fits binary32) xs) f in (subst T (sym p.0) tt, p.1)

pub floats_small : (xs : List Float) → Floats32 xs → all_below (256 ^ 4) (map bits xs) ≡ true
unfolding every
floats_small [] f = refl
floats_small (x ∷ xs) f = let p = parts x xs f in both _ _ (lt-ltb _ _ (bits_small x p.0)) (floats_small xs p.1)

pub floats-finite : (xs : List Float) → Floats32 xs → every finite_float xs ≡ true → every finite (map bits xs) ≡ true
unfolding every
floats-finite [] f h = refl
floats-finite (x ∷ xs) f h =
    let p = parts x xs f in
    let q = and_parts (finite_float x) (every finite_float xs) h in
    both _ _ (bits-finite x p.0 q.0) (floats-finite xs p.1 q.1)

pub floats-back : (xs : List Float) → Floats32 xs → map float (map bits xs) ≡ xs
floats-back [] f = refl
floats-back (x ∷ xs) f = let p = parts x xs f in rw (float-bits x p.0, floats-back xs p.1)

-- ---- rows of patterns

pub patterns_finite : (ns : List ℕ) → every finite ns ≡ true → every finite_float (map float ns) ≡ true
unfolding every
patterns_finite [] h = refl
patterns_finite (n ∷ ns) h =
    let p = and_parts (finite n) (every finite ns) h in
    both _ _ (finite-float n ∙ p.0) (patterns_finite ns p.1)

pub patterns_back : (ns : List ℕ) → all_below (256 ^ 4) ns ≡ true → every finite ns ≡ true → map bits (map float ns) ≡ ns
unfolding every
patterns_back [] l h = refl
patterns_back (n ∷ ns) l h =
    let p = and_parts (finite n) (every finite ns) h in
    let q = and_parts (ltb n (256 ^ 4)) (all_below (256 ^ 4) ns) l in
    rw (bits-float n (ltb-true _ _ q.0) p.0, patterns_back ns q.1 p.1)
