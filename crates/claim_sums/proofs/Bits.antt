-- A turned bit: the byte moves by the bit's weight, and no other bit is another.
use mathlib.Core.Path.{◌≡◌, refl, sym, ap, ◌∙◌}
use mathlib.Core.Bool.{Bool, true, false, cond}
use mathlib.Core.Logic.{◌⊎◌, inl, inr}
use Prim.Native.Nat.{ℕ, suc, ◌+◌, ◌*◌, ◌-◌, ◌/◌, ◌%◌, ◌^◌, ◌≤◌, ◌<◌}
use native.Mathlib.Nat.{div-mul-le_self, mul-le-mul_right, mod-lt}
use native.Mathlib.Omega.{arith}
use lib.Dec.{eqb, ltb}
use lib.Pow.{pow_pos, shr-shr, split, high, low, field, mod-mod-pow}
use borrow.Author.Tests.{eq-eqb, ne_eqb, eqb-true, eqb-false, ltb-true, ltb-false}
use Rattle.claim_sums.specs.Damage.{bit, flip, TurnsOne, StaysByte}

-- a cleared bit is set, a set one is cleared
abbrev pub Turned : ℕ → ℕ → ℕ → Type 0
Turned k b c = ((bit k b ≡ 0) × (c ≡ b + 2 ^ k)) ⊎ (¬ (bit k b ≡ 0) × (b ≡ c + 2 ^ k))

-- a byte with bit k holds its weight
weight_within : (k b : ℕ) → ¬ (bit k b ≡ 0) → 2 ^ k ≤ b
weight_within k b h =
    let one : 1 ≤ b / 2 ^ k = omega arith in
    omega (arith, mul-le-mul_right (2 ^ k) one, div-mul-le_self b (2 ^ k))

pub turned : (k b : ℕ) → Turned k b (flip k b)
turned k b = go (eqb (bit k b) 0) refl
  where
    go : (t : Bool) → eqb (bit k b) 0 ≡ t → Turned k b (flip k b)
    go true e = inl (eqb-true _ _ e, rw e)
    go false e =
        let h = weight_within k b (eqb-false _ _ e) in
        inr (eqb-false _ _ e, rw e (omega arith))

-- ---- the other bits

-- the number above the bits below k is another, of the other parity and the same half
record Flipped (k b : ℕ) : Type 0 where
  above : ℕ
  is : flip k b ≡ above * 2 ^ k + b % 2 ^ k
  half : above / 2 ≡ b / 2 ^ k / 2
  parity : above % 2 ≡ 1 - bit k b

flipped : (k b : ℕ) → Flipped k b
flipped k b = go (turned k b)
  where
    go : Turned k b (flip k b) → Flipped k b
    go (inl (z, e)) = record { above = b / 2 ^ k + 1; is = omega (arith, split b k); half = omega arith; parity = omega arith }
    go (inr (z, e)) =
        let q : b / 2 ^ k ≡ b / 2 ^ k - 1 + 1 = omega arith in
        record { above = b / 2 ^ k - 1; is = omega (arith, split b k, ap (λ (n : ℕ). n * 2 ^ k) q); half = omega arith; parity = omega arith }

small : (k b : ℕ) → b % 2 ^ k < 2 ^ k
small k b = mod-lt b (pow_pos k)

-- what stands above a bit that is turned stays
above_stays : (k n b : ℕ) → flip k b / 2 ^ (k + suc n) ≡ b / 2 ^ (k + suc n)
above_stays k n b =
    let f = flipped k b in
    let q : flip k b / 2 ^ k ≡ f.above = ap (λ (x : ℕ). x / 2 ^ k) f.is ∙ high f.above k (small k b) in
    further (flip k b) ∙ ap (λ (x : ℕ). x / 2 / 2 ^ n) q ∙ ap (λ (x : ℕ). x / 2 ^ n) f.half ∙ sym (further b)
  where
    one : suc n ≡ 1 + n
    one = omega arith

    further : (x : ℕ) → x / 2 ^ (k + suc n) ≡ x / 2 ^ k / 2 / 2 ^ n
    further x = sym (shr-shr x k (suc n)) ∙ ap (λ (m : ℕ). x / 2 ^ k / 2 ^ m) one ∙ sym (shr-shr (x / 2 ^ k) 1 n)

-- a bit below k is one of the remainder
below_stays : (n m b : ℕ) → bit m (flip (suc n + m) b) ≡ bit m b
below_stays n m b =
    let f = flipped (suc n + m) b in
    let q : flip (suc n + m) b % 2 ^ (suc n + m) ≡ b % 2 ^ (suc n + m) = ap (λ (x : ℕ). x % 2 ^ (suc n + m)) f.is ∙ low f.above (suc n + m) (small (suc n + m) b) in
    within (flip (suc n + m) b) ∙ ap (λ (x : ℕ). x / 2 ^ m % 2) q ∙ sym (within b)
  where
    one : suc n ≡ n + 1
    one = omega arith

    within : (x : ℕ) → bit m x ≡ x % 2 ^ (suc n + m) / 2 ^ m % 2
    within x = sym (mod-mod-pow (x / 2 ^ m) n 1) ∙ ap (λ (y : ℕ). x / 2 ^ m % 2 ^ y % 2) (sym one) ∙ ap (λ (y : ℕ). y % 2) (sym (field x (suc n) m))

itself : (k b : ℕ) → bit k (flip k b) ≡ 1 - bit k b
itself k b =
    let f = flipped k b in
    ap (λ (x : ℕ). x / 2 ^ k % 2) f.is ∙ ap (λ (x : ℕ). x % 2) (high f.above k (small k b)) ∙ f.parity

pub turns_one : TurnsOne
turns_one k m b = go (ltb k m) refl (ltb m k) refl
  where
    go : (t : Bool) → ltb k m ≡ t → (u : Bool) → ltb m k ≡ u → bit m (flip k b) ≡ cond (eqb m k) (1 - bit m b) (bit m b)
    go true e u g =
        let l = ltb-true k m e in
        let q : k + suc (m - suc k) ≡ m = omega arith in
        rw (ne_eqb m k (omega arith)) (ap (λ (x : ℕ). x % 2) (rw q at (above_stays k (m - suc k) b)))
    go false e true g =
        let l = ltb-true m k g in
        let q : suc (k - suc m) + m ≡ k = omega arith in
        rw (ne_eqb m k (omega arith)) (rw q at (below_stays (k - suc m) m b))
    go false e false g =
        let q : m ≡ k = omega (arith, ltb-false k m e, ltb-false m k g) in
        rw (eq-eqb m k q, q) (itself k b)

pub stays_byte : StaysByte
stays_byte k b h l =
    let q : k + suc (7 - k) ≡ 8 = omega arith in
    let e : flip k b / 256 ≡ b / 256 = rw q at (above_stays k (7 - k) b) in
    omega arith
