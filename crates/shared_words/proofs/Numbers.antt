-- Numbers read from bytes: how many they are, and that written again they are the bytes that they were read from.
use mathlib.Core.Path.{◌≡◌, refl, sym, ap, ◌∙◌}
use mathlib.Core.List.{List}
use Prim.Native.Nat.{ℕ, zero, suc, ◌+◌, ◌*◌, ◌≤◌}
use native.Mathlib.Nat.{mul-zero, mul-suc, add_comm}
use native.Mathlib.Omega.{arith}
use lib.ListN.{length, take, drop, length-drop}
use lib.Seq.{take-add, take_all, length-take-le}
use Rattle.shared_words.specs.Bytes.{value, le, packed, numbers, Bytes}
use Rattle.shared_words.proofs.Bytes.{bytes_drop, bytes_take, le-value}

pub length-numbers : (w n : ℕ) (s : List ℕ) → length (numbers w n s) ≡ n
length-numbers w zero s = refl
length-numbers w (suc n) s = ap suc (length-numbers w n (drop w s))

-- the w bytes at the front, as a number and back
pub front : (w : ℕ) (s : List ℕ) → Bytes s → w ≤ length s → le w (value (take w s)) ≡ take w s
front w s b h = ap (λ (k : ℕ). le k (value (take w s))) (sym (length-take-le w s h)) ∙ le-value (take w s) (bytes_take w s b)

-- n numbers of w bytes
pub numbers-bytes : (w n : ℕ) (s : List ℕ) → Bytes s → w * n ≤ length s → packed w (numbers w n s) ≡ take (w * n) s
numbers-bytes w zero s b h = rw (mul-zero w)
numbers-bytes w (suc n) s b h =
    let m : w * suc n ≡ w + w * n = mul-suc w n ∙ add_comm (w * n) w in
    let d : w * n ≤ length (drop w s) = omega (arith, length-drop w s) in
    rw (front w s b (omega arith), numbers-bytes w n (drop w s) (bytes_drop w s b) d, m, take-add w (w * n) s)

-- where there is nothing else
pub packed-numbers : (w n : ℕ) (s : List ℕ) → Bytes s → length s ≡ w * n → packed w (numbers w n s) ≡ s
packed-numbers w n s b l = numbers-bytes w n s b (omega arith) ∙ take_all (w * n) s (omega arith)
