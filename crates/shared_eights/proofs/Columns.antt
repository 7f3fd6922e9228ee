-- Bytes side by side in one number, each by a function of a byte of a list: an operation on two such numbers works on each byte
-- apart, since none goes over into the next.
use mathlib.Core.Path.{◌≡◌, refl, sym, ap, ap₂, ◌∙◌}
use Prim.Native.Nat.{ℕ, zero, suc, ◌+◌, ◌*◌, ◌<◌}
use native.Mathlib.Omega.{arith}
use mathlib.Core.List.{List, [], ◌∷◌}
use lib.ListN.{length}
use lib.Bits.{bit_and, bit_or, bit_xor, and_block, or_block, xor_block}
use Rattle.shared_words.specs.Bytes.{value, Bytes}

abbrev pub col : (ℕ → ℕ) → List ℕ → ℕ
col f [] = 0
col f (b ∷ bs) = f b + 256 * col f bs

-- of a byte it makes a byte
abbrev pub Byte : (ℕ → ℕ) → Type 0
Byte f = (b : ℕ) → b < 256 → f b < 256

pub col-value : (bs : List ℕ) → value bs ≡ col (λ b. b) bs
col-value [] = refl
col-value (b ∷ bs) = ap (λ (x : ℕ). b + 256 * x) (col-value bs)

-- the same byte n times
abbrev pub repeated : ℕ → ℕ → ℕ
repeated c zero = 0
repeated c (suc n) = c + 256 * repeated c n

pub col-same : (c : ℕ) (bs : List ℕ) → repeated c (length bs) ≡ col (λ b. c) bs
col-same c [] = refl
col-same c (b ∷ bs) = ap (λ (x : ℕ). c + 256 * x) (col-same c bs)

pub col_equal : (f g : ℕ → ℕ) → ((b : ℕ) → b < 256 → f b ≡ g b) → (bs : List ℕ) → Bytes bs → col f bs ≡ col g bs
col_equal f g e [] h = refl
col_equal f g e (b ∷ bs) h = ap₂ (λ (x y : ℕ). x + 256 * y) (e b h.0) (col_equal f g e bs h.1)

pub col-add : (f g : ℕ → ℕ) (bs : List ℕ) → col f bs + col g bs ≡ col (λ b. f b + g b) bs
col-add f g [] = refl
col-add f g (b ∷ bs) = omega (arith, col-add f g bs)

turned : (x y : ℕ) → x + 256 * y ≡ y * 256 + x
turned x y = omega arith

module _ (op : ℕ → ℕ → ℕ) (none : op 0 0 ≡ 0) (block : (a b r s : ℕ) → r < 256 → s < 256 → op (a * 256 + r) (b * 256 + s) ≡ op a b * 256 + op r s)
    (f g : ℕ → ℕ) (hf : Byte f) (hg : Byte g) where
  col_op : (bs : List ℕ) → Bytes bs → op (col f bs) (col g bs) ≡ col (λ b. op (f b) (g b)) bs
  col_op [] h = none
  col_op (b ∷ bs) h =
      ap₂ op (turned (f b) (col f bs)) (turned (g b) (col g bs)) ∙ block (col f bs) (col g bs) (f b) (g b) (hf b h.0) (hg b h.0) ∙
      ap (λ (x : ℕ). x * 256 + op (f b) (g b)) (col_op bs h.1) ∙ sym (turned (op (f b) (g b)) (col (λ b. op (f b) (g b)) bs))

pub col-and : (f g : ℕ → ℕ) → Byte f → Byte g → (bs : List ℕ) → Bytes bs → bit_and (col f bs) (col g bs) ≡ col (λ b. bit_and (f b) (g b)) bs
col-and = col_op bit_and refl (and_block 8)

pub col_or : (f g : ℕ → ℕ) → Byte f → Byte g → (bs : List ℕ) → Bytes bs → bit_or (col f bs) (col g bs) ≡ col (λ b. bit_or (f b) (g b)) bs
col_or = col_op bit_or refl (or_block 8)

pub col_xor : (f g : ℕ → ℕ) → Byte f → Byte g → (bs : List ℕ) → Bytes bs → bit_xor (col f bs) (col g bs) ≡ col (λ b. bit_xor (f b) (g b)) bs
col_xor = col_op bit_xor refl (xor_block 8)
