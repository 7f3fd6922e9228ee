-- Two turned bits of two bytes: the first sum comes back only for opposite turns of one bit, the second then only where the
-- distance of the bytes is a multiple of 255.
use mathlib.Core.Path.{◌≡◌, sym, ap, ◌∙◌}
use mathlib.Core.List.{List}
use mathlib.Core.Logic.{◌↔◌, inl, inr}
use Prim.Native.Nat.{ℕ, ◌+◌, ◌*◌, ◌-◌, ◌%◌, ◌^◌, ◌<◌}
use native.Mathlib.Omega.{arith}
use lib.ListN.{length, get_or, set, length-set}
use lib.Seq.{get_or-set_other}
use Rattle.slip_sums.specs.Fletcher.{total, sum_of}
use Rattle.claim_sums.specs.Damage.{bit, flip, turn, TwoBits}
use Rattle.slip_sums.proofs.Weighted.{weighted}
use Rattle.claim_sums.proofs.Bits.{Turned, turned}
use Rattle.claim_sums.proofs.Changed.{total-set, weighted-set, first-same, second-same, sums_same}
use Rattle.claim_sums.proofs.Weights.{up_up, up-down, up-times, times-up}

-- a byte b becomes larger by p, and x bytes on e + p becomes e; d bytes stand from there to the end. Or the other way round.
weights-up-down : (w w₁ w₂ d x b e p : ℕ) → w₁ + (d + x) * b ≡ w + (d + x) * (b + p) → w₂ + d * (e + p) ≡ w₁ + d * e → w₂ ≡ w + x * p
weights-up-down w w₁ w₂ d x b e p f g = omega arith

weights-down-up : (w w₁ w₂ d x c g p : ℕ) → w₁ + (d + x) * (c + p) ≡ w + (d + x) * c → w₂ + d * g ≡ w₁ + d * (g + p) → w ≡ w₂ + x * p
weights-down-up w w₁ w₂ d x c g p e f = omega arith

-- the bytes b at i and g at j
module _ (s : List ℕ) (i j k m : ℕ) (before : i < j) (within : j < length s) (k-small : k < 8) (m-small : m < 8) where
  abbrev b : ℕ
  b = get_or s i 0

  abbrev g : ℕ
  g = get_or s j 0

  abbrev s₁ : List ℕ
  s₁ = turn i k s

  abbrev s₂ : List ℕ
  s₂ = set s₁ j (flip m g)

  abbrev d : ℕ
  d = length s - j

  abbrev x : ℕ
  x = j - i

  other : get_or s₁ j 0 ≡ g
  other = get_or-set_other s i j (flip k b) 0 (omega arith)

  within₁ : j < length s₁
  within₁ = omega (arith, length-set s i (flip k b))

  same_length : length s₂ ≡ length s
  same_length = length-set s₁ j (flip m g) ∙ length-set s i (flip k b)

  -- ---- how the totals move

  move₁ : total s₁ + b ≡ total s + flip k b
  move₁ = total-set s i (flip k b) (omega arith)

  move₂ : total s₂ + g ≡ total s₁ + flip m g
  move₂ = rw other at (total-set s₁ j (flip m g) within₁)

  moves₁ : weighted s₁ + (d + x) * b ≡ weighted s + (d + x) * flip k b
  moves₁ = weighted-set s i (d + x) (flip k b) (omega arith) (omega arith)

  moves₂ : weighted s₂ + d * g ≡ weighted s₁ + d * flip m g
  moves₂ = rw other at (weighted-set s₁ j d (flip m g) within₁ (omega (arith, length-set s i (flip k b))))

  up_then_down : k ≡ m → flip k b ≡ b + 2 ^ k → g ≡ flip m g + 2 ^ m → weighted s₂ ≡ weighted s + x * 2 ^ k
  up_then_down e f h =
      let f' = moves₁ ∙ ap (λ (n : ℕ). weighted s + (d + x) * n) f in
      let h' = ap (λ (n : ℕ). weighted s₂ + d * n) (ap (λ (n : ℕ). flip m g + 2 ^ n) e ∙ sym h) ∙ moves₂ in
      weights-up-down (weighted s) (weighted s₁) (weighted s₂) d x b (flip m g) (2 ^ k) f' h'

  down_then_up : k ≡ m → b ≡ flip k b + 2 ^ k → flip m g ≡ g + 2 ^ m → weighted s ≡ weighted s₂ + x * 2 ^ k
  down_then_up e f h =
      let f' = ap (λ (n : ℕ). weighted s₁ + (d + x) * n) (sym f) ∙ moves₁ in
      let h' = moves₂ ∙ ap (λ (n : ℕ). weighted s₁ + d * n) (h ∙ ap (λ (n : ℕ). g + 2 ^ n) (sym e)) in
      weights-down-up (weighted s) (weighted s₁) (weighted s₂) d x (flip k b) g (2 ^ k) f' h'

  -- ---- when they come back

  abbrev Missed : Type 0
  Missed = (k ≡ m) × ¬ (bit k b ≡ bit m g) × (x % 255 ≡ 0)

  there : Turned k b (flip k b) → Turned m g (flip m g) → sum_of s₂ ≡ sum_of s → Missed
  there (inl (z, f)) (inl (y, h)) e = absurd (up_up k m (total s) (total s₂) k-small m-small (omega (arith, move₁, move₂)) (first-same s₂ s e))
  there (inr (z, f)) (inr (y, h)) e = absurd (up_up k m (total s₂) (total s) k-small m-small (omega (arith, move₁, move₂)) (sym (first-same s₂ s e)))
  there (inl (z, f)) (inr (y, h)) e =
      let n = up-down k m (total s) (total s₂) k-small m-small (omega (arith, move₁, move₂)) (first-same s₂ s e) in
      (n, (λ w. y (sym w ∙ z)), up-times x k (weighted s) (weighted s₂) k-small (up_then_down n f h) (second-same s₂ s e))
  there (inr (z, f)) (inl (y, h)) e =
      let n = up-down k m (total s₂) (total s) k-small m-small (omega (arith, move₁, move₂)) (sym (first-same s₂ s e)) in
      (n, (λ w. z (w ∙ y)), up-times x k (weighted s₂) (weighted s) k-small (down_then_up n f h) (sym (second-same s₂ s e)))

  back : Turned k b (flip k b) → Turned m g (flip m g) → Missed → sum_of s₂ ≡ sum_of s
  back (inl (z, f)) (inl (y, h)) (n, differ, r) = absurd (differ (z ∙ sym y))
  back (inr (z, f)) (inr (y, h)) (n, differ, r) = absurd (differ (omega (arith, z, y)))
  back (inl (z, f)) (inr (y, h)) (n, differ, r) =
      let same : total s₂ ≡ total s = omega (arith, move₁, move₂, ap (λ (t : ℕ). 2 ^ t) n) in
      sums_same s₂ s same_length (ap (λ (t : ℕ). t % 255) same) (times-up x (2 ^ k) (weighted s) (weighted s₂) (up_then_down n f h) r)
  back (inr (z, f)) (inl (y, h)) (n, differ, r) =
      let same : total s₂ ≡ total s = omega (arith, move₁, move₂, ap (λ (t : ℕ). 2 ^ t) n) in
      sums_same s₂ s same_length (ap (λ (t : ℕ). t % 255) same) (sym (times-up x (2 ^ k) (weighted s₂) (weighted s) (down_then_up n f h) r))

  missed : (sum_of (turn j m s₁) ≡ sum_of s) ↔ Missed
  missed =
      let same = ap (λ (n : ℕ). sum_of (set s₁ j (flip m n))) other in
      (λ e. there (turned k b) (turned m g) (sym same ∙ e), λ q. same ∙ back (turned k b) (turned m g) q)

pub two-bits : TwoBits
two-bits = missed
