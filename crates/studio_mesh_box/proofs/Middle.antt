-- The middle of two floats of 32 bits does not overflow. The largest float is 2 ^ 24 - 1 times 2 ^ 104. What is at most
-- half of that is rounded to at most half of it, and the sum of two such halves to at most the whole.
use mathlib.Core.Path.{◌≡◌, refl, sym, ap, ◌∙◌}
use mathlib.Core.Bool.{Bool, true, false, not, ◌&&◌, beq, cond}
use Prim.Native.Nat.{ℕ, zero, suc, ◌+◌, ◌-◌, ◌*◌, ◌%◌, ◌<◌, ◌≤◌, ◌^◌}
use native.Mathlib.Nat.{zero-mul, mul_assoc, mul_right_comm, mul-le-mul_left, mul-le-mul_right, mul-pos, lt_of_mul-lt-mul_right, two-pow-succ}
use native.Mathlib.Omega.{arith}
use lib.IntN.{ℤ, pos, negsuc}
use lib.Dec.{T, leb, ltb, eqb, lt→ltb, ltb→lt, leb→le, nleb→lt}
use lib.Pow.{pow-add, pow_mono, pow_pos}
use lib.Ieee.{Float, nan, inf, fin, Format, binary32, up, down, prec, low, odd, units, round, sum, add, mul, le, fits, of_bits}
use lib.Ieee.Fits.{down_pos, and_l, and_r, round_is}
use lib.Ieee.Order.{round_mono}
use lib.Ieee.Positive.{le→cross}
use Rattle.studio_rules.specs.Box.{half, middle}

-- 24 ones, and j zeros behind them: shut, since `omega` takes no number of more than 38 digits
pub largest : ℕ → ℕ
largest j = 16777215 * 2 ^ j

-- x is finite, and at most that in size
abbrev pub Within : ℕ → Float → Type 0
Within j nan = ⊥
Within j (inf s) = ⊥
Within j (fin s m e) = m * up e ≤ largest j * down e

-- ---- where the bound is a float of the format, each fraction up to it is rounded to at most it, whatever the sign

module _ (j : ℕ) where
  abbrev bound : Float
  bound = fin false 16777215 (pos j)

  sized : (m : ℕ) (e : ℤ) → T (le (fin false m e) bound) → m * up e ≤ largest j * down e
  unfolding largest
  sized zero e h = omega (arith, zero-mul (up e))
  sized (suc m) e h = omega (arith, le→cross (fin false (suc m) e) bound (lt→ltb 0 (suc m) (omega arith)) tt h)

  odd-within : (d : ℕ) (s : Bool) (q k l : ℕ) → T (le (odd d false q k l) bound) → Within j (odd d s q k l)
  unfolding odd
  odd-within d s zero k l h = omega arith
  odd-within d s (suc q) k l h = sized _ _ h

  units-within : (f : Format) (s : Bool) (q k : ℕ) → T (le (units f false q k) bound) → Within j (units f s q k)
  unfolding units le
  units-within f s q k h = go (ltb (q * 2 ^ k) _) h
    where
      go : (t : Bool) → T (le (cond t (odd (suc (prec f)) false q k (low f)) (inf false)) bound) → Within j (cond t (odd (suc (prec f)) s q k (low f)) (inf s))
      go true h = odd-within (suc (prec f)) s q k (low f) h
      go false h = h

  round-within : (f : Format) → round f false (largest j) 1 ≡ bound → (s : Bool) (a c : ℕ) → 0 < c → a ≤ largest j * c → Within j (round f s a c)
  round-within f itself s a c p h =
      let l : T (le (round f false a c) bound) = rw itself at (round_mono f a c (largest j) 1 p (omega arith) (omega arith)) in
      rw (round_is f s a c) (units-within f s _ _ (rw (round_is f false a c) at l))

  twice : largest (suc j) ≡ largest j * 2
  unfolding largest
  twice = omega (arith, two-pow-succ j)

-- ---- a float of 32 bits is within the largest one

whole-within : (m k j : ℕ) → m < 2 ^ 24 → m * 2 ^ k < 2 ^ 24 * 2 ^ j → m * 2 ^ k ≤ largest j
unfolding largest
whole-within m k j a b = go (leb k j) (leb→le k j) (nleb→lt k j)
  where
    few : (i : ℕ) → i < 2 ^ 24 → i * 2 ^ j ≤ 16777215 * 2 ^ j
    few i l = mul-le-mul_right (2 ^ j) (omega arith)

    go : (t : Bool) → (T t → k ≤ j) → (T (not t) → j < k) → m * 2 ^ k ≤ 16777215 * 2 ^ j
    go true l g = omega (arith, mul-le-mul_left m (pow_mono (l tt)), few m a)
    go false l g =
        let e : k ≡ k - j + j = omega (arith, g tt) in
        let p : m * 2 ^ k ≡ m * 2 ^ (k - j) * 2 ^ j = ap (λ (i : ℕ). m * 2 ^ i) e ∙ ap (λ (i : ℕ). m * i) (pow-add 2 (k - j) j) ∙ sym (mul_assoc m (2 ^ (k - j)) (2 ^ j)) in
        let c : m * 2 ^ (k - j) < 2 ^ 24 = lt_of_mul-lt-mul_right (2 ^ j) (omega arith) in
        omega (arith, few (m * 2 ^ (k - j)) c)

part-within : (m j q : ℕ) → m < 2 ^ 24 → 0 < q → m * 1 ≤ largest j * q
unfolding largest
part-within m j q a p = let r = mul-pos (pow_pos j) p in omega (arith, mul_assoc 16777215 (2 ^ j) q)

two-of-four : (a b c d : Bool) → T (a && b && c && d) → T b × T d
two-of-four a b c d h = (and_r a b (and_l (a && b) c (and_l (a && b && c) d h)), and_r (a && b && c) d h)

pub fits-within : (s : Bool) (m : ℕ) (e : ℤ) → T (fits binary32 (fin s m e)) → Within 104 (fin s m e)
unfolding fits
fits-within s zero e h = omega (arith, zero-mul (up e))
fits-within s (suc m) e h =
    let p = two-of-four (eqb (suc m % 2) 1) (ltb (suc m) (2 ^ 24)) (leb (down e) (2 ^ 149)) (ltb (suc m * up e) (2 ^ 128 * down e)) h in
    by e (ltb→lt _ _ p.0) (ltb→lt _ _ p.1)
  where
    by : (e : ℤ) → suc m < 2 ^ 24 → suc m * up e < 2 ^ 128 * down e → suc m * up e ≤ largest 104 * down e
    by (pos k) a b = omega (arith, whole-within (suc m) k 104 a b)
    by (negsuc k) a b = part-within (suc m) 104 (2 ^ suc k) a (pow_pos (suc k))

-- ---- half of one is within half of the largest, and the sum of two such halves within the largest

itself_103 : round binary32 false (largest 103) 1 ≡ bound 103
unfolding largest round
itself_103 = refl

itself_104 : round binary32 false (largest 104) 1 ≡ bound 104
unfolding largest round
itself_104 = refl

halved : (x l p : ℕ) → x ≤ l * 2 * p → x * 1 ≤ l * (p * 2)
halved x l p h = omega (arith, mul_right_comm l 2 p, mul_assoc l p 2)

half-within : (x : Float) → Within 104 x → Within 103 (mul binary32 x half)
unfolding mul of_bits
half-within nan h = h
half-within (inf s) h = h
half-within (fin s m e) h = round-within 103 binary32 itself_103 _ (m * up e * 1) (down e * 2) (omega (arith, down_pos e)) (halved (m * up e) (largest 103) (down e) (rw (twice 103) at h))

two-parts : (x p y q l : ℕ) → x ≤ l * p → y ≤ l * q → x * q + y * p ≤ l * 2 * (p * q)
two-parts x p y q l h k =
    let a = mul-le-mul_right q h in
    let b = mul-le-mul_right p k in
    omega (arith, mul_right_comm l q p, mul_assoc l p q, mul_right_comm l 2 (p * q))

signed_within : (s : Bool) (a : ℕ) (t : Bool) (b c : ℕ) → 0 < c → a + b ≤ largest 104 * c → Within 104 (sum binary32 s a t b c)
unfolding sum
signed_within s a t b c p h = go (beq s t) (ltb a b)
  where
    rounded : (r : Bool) (n : ℕ) → n ≤ a + b → Within 104 (round binary32 r n c)
    rounded r n l = round-within 104 binary32 itself_104 r n c p (omega arith)

    go : (x y : Bool) → Within 104 (cond x (round binary32 s (a + b) c) (cond y (round binary32 t (b - a) c) (round binary32 (s && ltb b a) (a - b) c)))
    go true y = rounded s (a + b) (omega arith)
    go false true = rounded t (b - a) (omega arith)
    go false false = rounded (s && ltb b a) (a - b) (omega arith)

sum-within : (x y : Float) → Within 103 x → Within 103 y → Within 104 (add binary32 x y)
unfolding add
sum-within nan y h k = h
sum-within (inf s) y h k = absurd h
sum-within (fin s m e) nan h k = k
sum-within (fin s m e) (inf t) h k = absurd k
sum-within (fin s m e) (fin t n d) h k =
    signed_within s (m * up e * down d) t (n * up d * down e) (down e * down d) (mul-pos (down_pos e) (down_pos d))
    (rw (twice 103) (two-parts (m * up e) (down e) (n * up d) (down d) (largest 103) h k))

pub middle-within : (x y : Float) → Within 104 x → Within 104 y → Within 104 (middle x y)
unfolding middle
middle-within x y h k = sum-within (mul binary32 x half) (mul binary32 y half) (half-within x h) (half-within y k)
