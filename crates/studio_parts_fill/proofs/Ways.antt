-- Two ways in which numbers stand in a row, as they are or as four bytes each: put behind others, and read back.
use mathlib.Core.Path.{◌≡◌, refl, ap, ◌∙◌, subst}
use mathlib.Core.Bool.{cond}
use mathlib.Core.List.{List, [], ◌∷◌, ◌++◌}
use Prim.Native.Nat.{ℕ, zero, suc, ◌+◌, ◌*◌, ◌≤◌, ◌<◌, ◌^◌}
use native.Mathlib.Omega.{arith}
use lib.Dec.{eqb}
use lib.ListN.{length, take, drop, get_or, set, length-set}
use Rattle.shared_words.specs.Bytes.{le, value, packed}
use Rattle.shared_words.proofs.Bytes.{length-packed, packed_append, value-le}
use Rattle.studio_rules.specs.OwnData.{root}
use Rattle.shared_numbers.specs.Numbers.{long_at}
use Rattle.shared_numbers.specs.Put.{Put}
use Rattle.shared_numbers.proofs.Put.{put_byte, put_then, put_front}
use Rattle.studio_parts_fill.specs.Depths.{depth_in_bytes}

pub record Way : Type 0 where
  -- what numbers are in the row, and how many elements one takes
  pub enc : List ℕ → List ℕ
  pub width : ℕ
  -- number i, read from the row
  pub read : List ℕ → ℕ → ℕ
  pub none : enc [] ≡ []
  pub more : (xs ys : List ℕ) → enc (xs ++ ys) ≡ enc xs ++ enc ys
  pub long : (xs : List ℕ) → length (enc xs) ≡ width * length xs
  pub reads : (xs row₀ row : List ℕ) (k i : ℕ) → Put row₀ 0 (enc xs) row k → i < length xs → get_or xs i 0 < 2 ^ 32 → read row i ≡ get_or xs i 0

pub front_number : (xs ys : List ℕ) (i : ℕ) → i < length xs → get_or (xs ++ ys) i 0 ≡ get_or xs i 0
front_number [] ys i l = absurd (omega arith)
front_number (x ∷ xs) ys zero l = refl
front_number (x ∷ xs) ys (suc i) l = front_number xs ys i (omega arith)

front_long : (xs ys : List ℕ) (i : ℕ) → i < length xs → get_or xs i 0 < 2 ^ 32 → value (take 4 (drop (4 * i) (packed 4 xs ++ ys))) ≡ get_or xs i 0
front_long [] ys i l h = absurd (omega arith)
front_long (x ∷ xs) ys zero l h = value-le 4 x h
front_long (x ∷ xs) ys (suc i) l h =
    let e : 4 * suc i ≡ suc (suc (suc (suc (4 * i)))) = omega arith in
    ap (λ (k : ℕ). value (take 4 (drop k (packed 4 (x ∷ xs) ++ ys)))) e ∙ front_long xs ys i (omega arith) h

-- as they are
abbrev pub as_numbers : Way
as_numbers = record {
  enc = λ xs. xs;
  width = 1;
  read = λ row i. get_or row i 0;
  none = refl;
  more = λ xs ys. refl;
  long = λ xs. omega arith;
  reads = λ xs row₀ row k i p l h. ap (λ (r : List ℕ). get_or r i 0) (put_front p) ∙ front_number xs (drop (length xs) row₀) i l;
}

pub long-back : (xs row₀ row : List ℕ) (k i : ℕ) → Put row₀ 0 (packed 4 xs) row k → i < length xs → get_or xs i 0 < 2 ^ 32 → long_at row (4 * i) ≡ get_or xs i 0
unfolding long_at
long-back xs row₀ row k i p l h = ap (λ (r : List ℕ). value (take 4 (drop (4 * i) r))) (put_front p) ∙ front_long xs (drop (length (packed 4 xs)) row₀) i l h

-- as four bytes each
abbrev pub as_bytes : Way
as_bytes = record {
  enc = packed 4;
  width = 4;
  read = λ row i. long_at row (4 * i);
  none = refl;
  more = packed_append 4;
  long = length-packed 4;
  reads = long-back;
}

-- ---- the two numbers of a part

pub two_stores : (row : List ℕ) (at a b : ℕ) → at + 2 ≤ length row → Put row at (a ∷ b ∷ []) (set (set row at a) (at + 1) b) (at + 2)
two_stores row at a b h =
    let e : at + 1 + 1 ≡ at + 2 = omega arith in
    subst (λ (k : ℕ). Put row at (a ∷ b ∷ []) (set (set row at a) (at + 1) b) k) e
    (put_then (omega arith) (put_byte row at a (omega arith)) (put_byte (set row at a) (at + 1) b (omega (arith, length-set row at a))))

pub two_longs : {row row₁ row₂ : List ℕ} {at k n : ℕ} (a b : ℕ) → at ≤ length row → Put row at (le 4 a) row₁ k → Put row₁ k (le 4 b) row₂ n → Put row at (packed 4 (a ∷ b ∷ [])) row₂ n
two_longs a b h p q = put_then h p q

-- the second number of a part in bytes
second : (row : List ℕ) (f : ℕ) → long_at row (8 * f + 4) ≡ as_bytes.read row (2 * f + 1)
second row f = let e : 8 * f + 4 ≡ 4 * (2 * f + 1) = omega arith in ap (long_at row) e

pub bytes_depth : (row : List ℕ) (f : ℕ) → depth_in_bytes row f ≡ cond (eqb f root) 0 (as_bytes.read row (2 * f + 1) + 1)
bytes_depth row f = ap (λ (k : ℕ). cond (eqb f root) 0 (k + 1)) (second row f)

pub bytes_small : (row : List ℕ) (f : ℕ) → as_bytes.read row (2 * f + 1) + 1 < 2 ^ 32 → long_at row (8 * f + 4) + 1 < 2 ^ 32
bytes_small row f h = rw (second row f) h
