-- The number of the bytes that a list begins with, byte by byte.
use mathlib.Core.Path.{◌≡◌, refl, sym, ap, ◌∙◌}
use Prim.Native.Nat.{ℕ, zero, suc, ◌+◌, ◌*◌, ◌<◌, ◌≤◌}
use native.Mathlib.Omega.{arith}
use native.Mathlib.Numerals.{add-one}
use mathlib.Core.List.{List}
use lib.ListN.{length, take, drop, get_or, length-take}
use lib.Seq.{drop-cons}
use Rattle.shared_words.specs.Bytes.{value}
use Rattle.shared_words.proofs.Bytes.{bytes-all, bytes_take}
use Rattle.shared_eights.specs.Eights.{Eight}

-- of the n bytes from i on
abbrev sum : ℕ → ℕ → List ℕ → ℕ
sum zero i s = 0
sum (suc n) i s = get_or s i 0 + 256 * sum n (i + 1) s

summed : (n i : ℕ) (s : List ℕ) → i + n ≤ length s → value (take n (drop i s)) ≡ sum n i s
summed zero i s h = refl
summed (suc n) i s h =
    ap (λ (l : List ℕ). value (take (suc n) l)) (drop-cons s i 0 (omega arith)) ∙
    ap (λ (k : ℕ). get_or s i 0 + 256 * value (take n (drop k s))) (sym (add-one i)) ∙
    ap (λ (x : ℕ). get_or s i 0 + 256 * x) (summed n (i + 1) s (omega arith))

pub eight : (s : List ℕ) → 8 ≤ length s → ((i : ℕ) → get_or s i 0 < 256) → (r : ℕ) → r ≡ sum 8 0 s → Eight (take 8 s) r
eight s h b r e = record { bytes = bytes_take 8 s (bytes-all s b); eight = length-take 8 s ∙ omega arith; is = e ∙ sym (summed 8 0 s (omega arith)) }
