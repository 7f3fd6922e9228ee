-- Remainders modulo 255, and equal sums by their parts.
use mathlib.Core.Path.{◌≡◌, sym, ap, ◌∙◌}
use Prim.Native.Nat.{ℕ, ◌+◌, ◌*◌, ◌/◌, ◌%◌, ◌≤◌}
use native.Mathlib.Nat.{div-add-mod, mod-add-mod, add-mul-mod_self_left, mul-le-mul}
use native.Mathlib.Omega.{arith}
use Rattle.slip_sums.specs.declared.Sum.{Sum}

pub times_remainder : (n m : ℕ) → n * m ≡ n * (m % 255) + 255 * (n * (m / 255))
times_remainder n m = ap (λ (x : ℕ). n * x) (omega (arith, div-add-mod m 255)) ∙ go (m % 255) (m / 255)
  where
    go : (r q : ℕ) → n * (r + 255 * q) ≡ n * r + 255 * (n * q)
    go r q = omega arith

-- remainders taken early, of a term and of a factor, change no remainder
pub early : (x y n m : ℕ) → (x % 255 + y + n * (m % 255)) % 255 ≡ (x + y + n * m) % 255
early x y n m =
    ap (λ (z : ℕ). z % 255) (omega arith) ∙
    mod-add-mod x 255 (y + n * (m % 255)) ∙
    sym (add-mul-mod_self_left (x + (y + n * (m % 255))) 255 (n * (m / 255))) ∙
    ap (λ (z : ℕ). z % 255) (omega (arith, times_remainder n m))

-- also of both factors and of a further term
pub early-all : (x y n m : ℕ) → (x % 255 + y % 255 + n % 255 * (m % 255)) % 255 ≡ (x + y + n * m) % 255
early-all x y n m =
    early x (y % 255) (n % 255) m ∙
    ap (λ (z : ℕ). z % 255) (omega arith) ∙
    early y x m n ∙
    ap (λ (z : ℕ). z % 255) (omega arith)

pub remainders_small : (n m : ℕ) → n % 255 * (m % 255) ≤ 254 * 254
remainders_small n m = mul-le-mul {n₁ = n % 255} {m₁ = m % 255} {n₂ = 254} {m₂ = 254} (omega arith) (omega arith)

-- ---- sums

abbrev made : ℕ → ℕ → ℕ → Sum
made l f s = record { len = l; first = f; second = s }

pub sum_same : {a b : Sum} → a.len ≡ b.len → a.first ≡ b.first → a.second ≡ b.second → a ≡ b
sum_same {a} {b} l f s =
    ap (λ (x : ℕ). made x a.first a.second) l ∙ ap (λ (x : ℕ). made b.len x a.second) f ∙ ap (λ (x : ℕ). made b.len b.first x) s
