-- The totals of a list that a loop goes through, one byte more.
use mathlib.Core.Path.{◌≡◌}
use mathlib.Core.List.{List, [], ◌∷◌}
use Prim.Native.Nat.{ℕ, suc, ◌+◌, ◌*◌, ◌-◌, ◌≤◌, ◌<◌}
use native.Mathlib.Nat.{mul-le-mul}
use native.Mathlib.Numerals.{add-one}
use native.Mathlib.Omega.{arith}
use lib.ListN.{length, take, get_or}
use lib.Seq.{take-suc}
use Rattle.slip_sums.specs.Fletcher.{total}
use Rattle.slip_sums.proofs.Weighted.{weighted, total_append, weighted_append}

pub total-more : (s : List ℕ) (i : ℕ) → i < length s → total (take (i + 1) s) ≡ total (take i s) + get_or s i 0
total-more s i h = rw (add-one i, take-suc s i 0 h) (omega (arith, total_append (take i s) (get_or s i 0 ∷ [])))

pub weighted-more : (s : List ℕ) (i : ℕ) → i < length s → weighted (take (i + 1) s) ≡ weighted (take i s) + total (take i s) + get_or s i 0
weighted-more s i h = rw (add-one i, take-suc s i 0 h) (omega (arith, weighted_append (take i s) (get_or s i 0 ∷ [])))

-- Where each byte is counted at once as often as in the end, the sum is ahead of the running sums' by the bytes passed, once
-- for each byte to come.
abbrev pub ahead : ℕ → ℕ → List ℕ → ℕ
ahead n i s = weighted (take i s) + (n - i) * total (take i s)

pub ahead_more : (n : ℕ) (s : List ℕ) (i : ℕ) → i < n → i < length s → ahead n (i + 1) s ≡ ahead n i s + get_or s i 0 * (n - i)
ahead_more n s i l h =
    let q : n - i ≡ suc (n - (i + 1)) = omega arith in
    rw (total-more s i h, weighted-more s i h, q) (go (weighted (take i s)) (total (take i s)) (get_or s i 0) (n - (i + 1)))
  where
    go : (w t b r : ℕ) → w + t + b + r * (t + b) ≡ w + suc r * t + b * suc r
    go w t b r = omega arith

-- a byte or a remainder, at most 128 times
pub product_small : (b n : ℕ) → b ≤ 255 → n ≤ 128 → b * n ≤ 255 * 128
product_small b n h l = mul-le-mul {n₁ = b} {m₁ = n} {n₂ = 255} {m₂ = 128} h l
