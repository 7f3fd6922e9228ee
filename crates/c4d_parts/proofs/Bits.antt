-- A bit tested, and a bit set.
use mathlib.Core.Path.{◌≡◌, refl, sym, ap, ◌∙◌}
use Prim.Native.Nat.{ℕ, zero, suc, ◌+◌, ◌-◌, ◌*◌, ◌/◌, ◌%◌, ◌^◌, ◌<◌, ◌≤◌}
use native.Mathlib.Omega.{arith}
use native.Mathlib.Nat.{div-div-eq-div-mul, pow-succ', pow-zero, pow-le-pow_right}
use mathlib.Core.Bool.{Bool, true, false, ◌||◌, cond, or-false}
use mathlib.Core.List.{List, [], ◌∷◌, ◌++◌}
use lib.Dec.{eqb}
use borrow.Author.Tests.{eqb-true, eq-eqb, ne_eqb}
use Rattle.shared_words.specs.Lists.{among}
use Rattle.shared_words.proofs.Bools.{bit_small}
use Rattle.c4d_rules.specs.Combinations.{is_in}
use Rattle.c4d_parts.specs.Bits.{bits_from, bits}

is_one : (b : Bool) → eqb (cond b 1 0) 1 ≡ b
is_one true = refl
is_one false = refl

-- ---- tested

bit_at : (there : ℕ → Bool) (w k id : ℕ) → k < w → bits_from there id w / 2 ^ k % 2 ≡ cond (there (id + k)) 1 0
bit_at there zero k id l = absurd (omega arith)
bit_at there (suc w) zero id l =
    let z : id + 0 ≡ id = omega arith in
    let b = bit_small (there id) in
    rw (pow-zero 2, z) (omega arith)
bit_at there (suc w) (suc k) id l =
    let b = bit_small (there id) in
    let m = bits_from there (suc id) w in
    let h : (cond (there id) 1 0 + 2 * m) / 2 ≡ m = omega arith in
    let s : suc id + k ≡ id + suc k = omega arith in
    rw (pow-succ' 2 k, ← (div-div-eq-div-mul (cond (there id) 1 0 + 2 * m) 2 (2 ^ k)), h, ← s) (bit_at there w k (suc id) (omega arith))

-- ---- set

bits_small : (there : ℕ → Bool) (w id : ℕ) → bits_from there id w < 2 ^ w
bits_small there zero id = rw (pow-zero 2) (omega arith)
bits_small there (suc w) id = rw (pow-succ' 2 w) (omega (arith, bit_small (there id), bits_small there w (suc id)))

bits-same : (f g : ℕ → Bool) (w id : ℕ) → ((j : ℕ) → id ≤ j → j < id + w → f j ≡ g j) → bits_from f id w ≡ bits_from g id w
bits-same f g zero id h = refl
bits-same f g (suc w) id h = rw (h id (omega arith) (omega arith), bits-same f g w (suc id) (λ j l m. h j (omega arith) (omega arith)))

-- g is f and one more
bits-set : (f g : ℕ → Bool) (w k id : ℕ) → k < w → f (id + k) ≡ false → g (id + k) ≡ true → ((j : ℕ) → (j ≡ id + k → ⊥) → f j ≡ g j) →
    bits_from f id w + 2 ^ k ≡ bits_from g id w
bits-set f g zero k id l p q h = absurd (omega arith)
bits-set f g (suc w) zero id l p q h =
    let z : id + 0 ≡ id = omega arith in
    let e = bits-same f g w (suc id) (λ j m n. h j (λ (x : j ≡ id + 0). omega arith)) in
    rw (pow-zero 2, rw z at p, rw z at q, e) (omega arith)
bits-set f g (suc w) (suc k) id l p q h =
    let s : suc id + k ≡ id + suc k = omega arith in
    let e = h id (λ (x : id ≡ id + suc k). omega arith) in
    let r = bits-set f g w k (suc id) (omega arith) (rw s p) (rw s q) (rw s h) in
    rw (pow-succ' 2 k, e) (omega arith)

-- ---- of identifiers

pub among_snoc : (x : ℕ) (ids : List ℕ) (id : ℕ) → among x (ids ++ (id ∷ [])) ≡ (among x ids || eqb x id)
among_snoc x [] id = go (eqb x id)
  where
    go : (b : Bool) → (b || false) ≡ b
    go true = refl
    go false = refl
among_snoc x (y ∷ ids) id = go (eqb x y) (among_snoc x ids id)
  where
    go : (b : Bool) → among x (ids ++ (id ∷ [])) ≡ (among x ids || eqb x id) → (b || among x (ids ++ (id ∷ []))) ≡ ((b || among x ids) || eqb x id)
    go true r = refl
    go false r = r

pub bits_below : (ids : List ℕ) → bits ids < 131072
unfolding bits
bits_below ids = bits_small (is_in ids) 17 16

pub there-is : (ids : List ℕ) (id : ℕ) → 16 ≤ id → id ≤ 32 → eqb (bits ids / 2 ^ (id - 16) % 2) 1 ≡ is_in ids id
unfolding bits
there-is ids id l m =
    let e : 16 + (id - 16) ≡ id = omega arith in
    rw (bit_at (is_in ids) 17 (id - 16) 16 (omega arith), e) (is_one (is_in ids id))

-- ---- with one more

module _ (ids : List ℕ) (id : ℕ) where
  same-with : is_in ids id ≡ true → (j : ℕ) → is_in (ids ++ (id ∷ [])) j ≡ is_in ids j
  same-with h j = among_snoc j ids id ∙ go (eqb j id) refl
    where
      go : (b : Bool) → eqb j id ≡ b → (among j ids || b) ≡ among j ids
      go true e = let i : among j ids ≡ true = ap (is_in ids) (eqb-true j id e) ∙ h in rw i
      go false e = or-false (among j ids)

  pub bits-again : is_in ids id ≡ true → bits (ids ++ (id ∷ [])) ≡ bits ids
  unfolding bits
  bits-again h = bits-same (is_in (ids ++ (id ∷ []))) (is_in ids) 17 16 (λ j l m. same-with h j)

  -- no bit stands for it
  pub bits_other : (16 ≤ id → 32 < id) → bits (ids ++ (id ∷ [])) ≡ bits ids
  unfolding bits
  bits_other h =
      bits-same (is_in (ids ++ (id ∷ []))) (is_in ids) 17 16
      (λ j l m. among_snoc j ids id ∙ rw (ne_eqb j id (λ (e : j ≡ id). let n = h (omega arith) in omega arith)) (or-false (among j ids)))

  pub bits-more : 16 ≤ id → id ≤ 32 → is_in ids id ≡ false → bits ids + 2 ^ (id - 16) ≡ bits (ids ++ (id ∷ []))
  unfolding bits
  bits-more l m h =
      let e : 16 + (id - 16) ≡ id = omega arith in
      let q : is_in (ids ++ (id ∷ [])) id ≡ true = among_snoc id ids id ∙ rw (h, eq-eqb id id refl) in
      bits-set (is_in ids) (is_in (ids ++ (id ∷ []))) 17 (id - 16) 16 (omega arith) (rw e h) (rw e q)
      (rw e (λ j n. sym (among_snoc j ids id ∙ rw (ne_eqb j id n) (or-false (among j ids)))))

-- the bit of an identifier, as it is made by a shift
pub shift_small : (id : ℕ) → 16 ≤ id → id ≤ 32 → 2 ^ (id - 16) ≤ 65536
shift_small id l m = pow-le-pow_right {n = 2} (omega arith) {i = id - 16} {j = 16} (omega arith)
