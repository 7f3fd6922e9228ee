-- The sums and masks of eight bytes mark each byte that does not pass the test: by what they make of one byte, which is computed
-- for all 256.
use mathlib.Core.Path.{◌≡◌, refl, sym, ap, ap₂, ◌∙◌}
use mathlib.Core.Bool.{Bool, true, false, ◌&&◌, cond}
use Prim.Native.Nat.{ℕ, zero, suc, ◌+◌, ◌*◌, ◌≤◌, ◌<◌}
use native.Mathlib.Omega.{arith}
use mathlib.Core.List.{List, [], ◌∷◌}
use lib.Dec.{eqb}
use lib.ListN.{length}
use lib.Bits.{bit_and, bit_or, bit_xor, and_le_r, or_lt, xor_lt}
use borrow.Author.Tests.{eqb-true, eqb-false}
use Rattle.shared_words.specs.Bytes.{value, Bytes}
use Rattle.shared_words.specs.Labels.{printable}
use Rattle.shared_words.proofs.Bools.{and_parts}
use Rattle.shared_eights.specs.Eights.{nonzero, marks}
use Rattle.shared_eights.proofs.Columns.{col, Byte, col-value, repeated, col-same, col_equal, col-add, col-and, col_or, col_xor}

-- ---- a test that is computed

all_under : (ℕ → Bool) → ℕ → Bool
all_under p zero = true
all_under p (suc n) = p n && all_under p n

under : (p : ℕ → Bool) (n : ℕ) → all_under p n ≡ true → (b : ℕ) → b < n → p b ≡ true
unfolding all_under
under p zero e b h = absurd (omega arith)
under p (suc n) e b h = go (eqb b n) refl (under p n (and_parts (p n) (all_under p n) e).1 b)
  where
    go : (q : Bool) → eqb b n ≡ q → (b < n → p b ≡ true) → p b ≡ true
    go true q ih = ap p (eqb-true b n q) ∙ (and_parts (p n) (all_under p n) e).0
    go false q ih = let other = eqb-false b n q in ih (omega (arith, other))

-- ---- what becomes of one byte

abbrev mark : (ℕ → Bool) → ℕ → ℕ
mark good b = cond (good b) 0 128

abbrev low : ℕ → ℕ
low b = bit_and b 127

abbrev byte_unprintable : ℕ → ℕ
byte_unprintable b = bit_and (bit_or (bit_or b (low b + 1)) (bit_xor (low b + 96) 128)) 128

abbrev byte_zero : ℕ → ℕ
byte_zero b = bit_xor (bit_and (bit_or (low b + 127) b) 128) 128

unprintable_right : (b : ℕ) → b < 256 → byte_unprintable b ≡ mark printable b
unfolding all_under
unprintable_right b h = eqb-true _ _ (under (λ (b : ℕ). eqb (byte_unprintable b) (mark printable b)) 256 refl b h)

zero_right : (b : ℕ) → b < 256 → byte_zero b ≡ mark nonzero b
unfolding all_under
zero_right b h = eqb-true _ _ (under (λ (b : ℕ). eqb (byte_zero b) (mark nonzero b)) 256 refl b h)

marked : (good : ℕ → Bool) (bs : List ℕ) → col (mark good) bs ≡ value (marks good bs)
marked good [] = refl
marked good (b ∷ bs) = ap (λ (x : ℕ). mark good b + 256 * x) (marked good bs)

-- ---- of eight

module _ (bs : List ℕ) (h : Bytes bs) (l : length bs ≡ 8) where
  same : (c : ℕ) → repeated c 8 ≡ col (λ b. c) bs
  same c = ap (repeated c) (sym l) ∙ col-same c bs

  lows : bit_and (value bs) 0x7F7F7F7F7F7F7F7F ≡ col low bs
  lows = ap₂ bit_and (col-value bs) (same 127) ∙ col-and (λ b. b) (λ b. 127) (λ b k. k) (λ b k. omega arith) bs h

  above : (c : ℕ) → bit_and (value bs) 0x7F7F7F7F7F7F7F7F + repeated c 8 ≡ col (λ b. low b + c) bs
  above c = ap₂ (λ (x y : ℕ). x + y) lows (same c) ∙ col-add low (λ b. c) bs

  above_byte : (c : ℕ) → c ≤ 128 → Byte (λ b. low b + c)
  above_byte c k b q = omega (arith, and_le_r b 127)

  pub unprintable_marks :
      bit_and (bit_or (bit_or (value bs) (bit_and (value bs) 0x7F7F7F7F7F7F7F7F + 0x0101010101010101))
      (bit_xor (bit_and (value bs) 0x7F7F7F7F7F7F7F7F + 0x6060606060606060) 0x8080808080808080)) 0x8080808080808080 ≡ value (marks printable bs)
  unprintable_marks =
      let one : Byte (λ b. bit_or b (low b + 1)) = λ b k. or_lt 8 b (low b + 1) k (above_byte 1 (omega arith) b k) in
      let two : Byte (λ b. bit_xor (low b + 96) 128) = λ b k. xor_lt 8 (low b + 96) 128 (above_byte 96 (omega arith) b k) (omega arith) in
      let left = ap₂ bit_or (col-value bs) (above 1) ∙ col_or (λ b. b) (λ b. low b + 1) (λ b k. k) (above_byte 1 (omega arith)) bs h in
      let right = ap₂ bit_xor (above 96) (same 128) ∙ col_xor (λ b. low b + 96) (λ b. 128) (above_byte 96 (omega arith)) (λ b k. omega arith) bs h in
      let both = ap₂ bit_or left right ∙ col_or (λ b. bit_or b (low b + 1)) (λ b. bit_xor (low b + 96) 128) one two bs h in
      ap₂ bit_and both (same 128) ∙
      col-and (λ b. bit_or (bit_or b (low b + 1)) (bit_xor (low b + 96) 128)) (λ b. 128) (λ b k. or_lt 8 _ _ (one b k) (two b k)) (λ b k. omega arith) bs h ∙
      col_equal byte_unprintable (mark printable) unprintable_right bs h ∙ marked printable bs

  pub zero-marks :
      bit_xor (bit_and (bit_or (bit_and (value bs) 0x7F7F7F7F7F7F7F7F + 0x7F7F7F7F7F7F7F7F) (value bs)) 0x8080808080808080) 0x8080808080808080 ≡
      value (marks nonzero bs)
  zero-marks =
      let one : Byte (λ b. bit_or (low b + 127) b) = λ b k. or_lt 8 (low b + 127) b (above_byte 127 (omega arith) b k) k in
      let two : Byte (λ b. bit_and (bit_or (low b + 127) b) 128) = λ b k. omega (arith, and_le_r (bit_or (low b + 127) b) 128) in
      let any = ap₂ bit_or (above 127) (col-value bs) ∙ col_or (λ b. low b + 127) (λ b. b) (above_byte 127 (omega arith)) (λ b k. k) bs h in
      let high = ap₂ bit_and any (same 128) ∙ col-and (λ b. bit_or (low b + 127) b) (λ b. 128) one (λ b k. omega arith) bs h in
      ap₂ bit_xor high (same 128) ∙
      col_xor (λ b. bit_and (bit_or (low b + 127) b) 128) (λ b. 128) two (λ b k. omega arith) bs h ∙
      col_equal byte_zero (mark nonzero) zero_right bs h ∙ marked nonzero bs
