-- One changed byte: how the two sums move, and when they come back to the same remainders.
use mathlib.Core.Path.{◌≡◌, refl, sym, ap, ◌∙◌}
use mathlib.Core.Bool.{Bool, true, false}
use mathlib.Core.List.{List, [], ◌∷◌}
use mathlib.Core.Logic.{◌⊎◌, inl, inr}
use Prim.Native.Nat.{ℕ, zero, suc, ◌+◌, ◌*◌, ◌-◌, ◌%◌, ◌<◌}
use native.Mathlib.Nat.{add-mul-mod_self_left}
use native.Mathlib.Omega.{arith}
use lib.Dec.{ltb}
use lib.ListN.{length, get_or, set, length-set}
use borrow.Author.Tests.{ltb-true, ltb-false}
use Rattle.slip_sums.specs.declared.Sum.{Sum}
use Rattle.shared_words.specs.Bytes.{Bytes}
use Rattle.slip_sums.specs.Fletcher.{total, sum_of}
use Rattle.claim_sums.specs.Damage.{OneByte}
use Rattle.slip_sums.proofs.Remainders.{sum_same}
use Rattle.slip_sums.proofs.Weighted.{weighted, running-is}

pub total-set : (s : List ℕ) (i c : ℕ) → i < length s → total (set s i c) + get_or s i 0 ≡ total s + c
total-set [] i c h = absurd (omega arith)
total-set (b ∷ s) zero c h = omega arith
total-set (b ∷ s) (suc i) c h = omega (arith, total-set s i c (omega arith))

-- d counts the byte and those behind it
pub weighted-set : (s : List ℕ) (i d c : ℕ) → i < length s → i + d ≡ length s → weighted (set s i c) + d * get_or s i 0 ≡ weighted s + d * c
weighted-set [] i d c h e = absurd (omega arith)
weighted-set (b ∷ s) zero d c h e =
    let q : d ≡ suc (length s) = omega arith in
    rw q (omega arith)
weighted-set (b ∷ s) (suc i) d c h e = rw (length-set s i c) (omega (arith, weighted-set s i d c (omega arith) (omega arith)))

-- ---- equal sums, by the totals that they are remainders of

pub first-same : (s t : List ℕ) → sum_of s ≡ sum_of t → total s % 255 ≡ total t % 255
first-same s t e = ap (λ (a : Sum). a.first) e

pub second-same : (s t : List ℕ) → sum_of s ≡ sum_of t → weighted s % 255 ≡ weighted t % 255
second-same s t e = rw (← (running-is s), ← (running-is t)) (ap (λ (a : Sum). a.second) e)

pub sums_same : (s t : List ℕ) → length s ≡ length t → total s % 255 ≡ total t % 255 → weighted s % 255 ≡ weighted t % 255 → sum_of s ≡ sum_of t
sums_same s t l f g = sum_same l f (rw (running-is s, running-is t) g)

-- ---- one byte

byte_small : (s : List ℕ) (i : ℕ) → Bytes s → get_or s i 0 < 256
byte_small [] i h = omega arith
byte_small (b ∷ s) zero h = h.0
byte_small (b ∷ s) (suc i) h = byte_small s i h.1

-- bytes of the same remainder are the same, or 0 and 255
apart : (t u b c : ℕ) → u + b ≡ t + c → u % 255 ≡ t % 255 → b < c → c < 256 → (b ≡ 0) × (c ≡ 255)
apart t u b c e r l h = (omega arith, omega arith)

-- and those two change no remainder
zero_or_255 : (d b c t u : ℕ) → u + d * b ≡ t + d * c → b ≡ 0 → c ≡ 255 → u % 255 ≡ t % 255
zero_or_255 d b c t u e x y =
    let p : d * b ≡ 0 = ap (λ (z : ℕ). d * z) x ∙ omega arith in
    let q : d * c ≡ 255 * d = ap (λ (z : ℕ). d * z) y ∙ omega arith in
    ap (λ (z : ℕ). z % 255) (omega arith) ∙ add-mul-mod_self_left t 255 d

pub one_byte : OneByte
one_byte s i c bytes h small other = (there (ltb b c) refl, back)
  where
    b : ℕ
    b = get_or s i 0

    s' : List ℕ
    s' = set s i c

    d : ℕ
    d = length s - i

    move : total s' + b ≡ total s + c
    move = total-set s i c h

    moves : weighted s' + d * b ≡ weighted s + d * c
    moves = weighted-set s i d c h (omega arith)

    there : (t : Bool) → ltb b c ≡ t → sum_of s' ≡ sum_of s → ((b ≡ 0) × (c ≡ 255)) ⊎ ((b ≡ 255) × (c ≡ 0))
    there true l e = inl (apart (total s) (total s') b c move (first-same s' s e) (ltb-true b c l) small)
    there false l e =
        let q = apart (total s') (total s) c b (sym move) (sym (first-same s' s e)) (omega (arith, ltb-false b c l, other)) (byte_small s i bytes) in
        inr (q.1, q.0)

    back : ((b ≡ 0) × (c ≡ 255)) ⊎ ((b ≡ 255) × (c ≡ 0)) → sum_of s' ≡ sum_of s
    back (inl (x, y)) = sums_same s' s (length-set s i c) (zero_or_255 1 b c (total s) (total s') (omega (arith, move)) x y) (zero_or_255 d b c (weighted s) (weighted s') moves x y)
    back (inr (x, y)) =
        sums_same s' s
        (length-set s i c)
        (sym (zero_or_255 1 c b (total s') (total s) (omega (arith, move)) y x))
        (sym (zero_or_255 d c b (weighted s') (weighted s) (sym moves) y x))
