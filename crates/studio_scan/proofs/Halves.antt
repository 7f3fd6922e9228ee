-- The words of a 4-byte number.
use mathlib.Core.Path.{◌≡◌}
use mathlib.Core.List.{List}
use Prim.Native.Nat.{ℕ, ◌+◌, ◌-◌, ◌*◌, ◌<◌, ◌≤◌}
use native.Mathlib.Omega.{arith}
use lib.ListN.{length, get_or, take, drop, length-drop}
use lib.Seq.{drop-drop, take_all}
use Rattle.shared_numbers.specs.Numbers.{word_at, long_at}
use Rattle.shared_numbers.proofs.At.{word_bytes, long-bytes}
use Rattle.studio_scan.specs.Halves.{Halves}

-- four bytes, each times its weight
pub halves : (s : List ℕ) → 4 ≤ length s → ((k : ℕ) → get_or s k 0 < 256) → (r : ℕ) →
    r ≡ get_or s 0 0 + 256 * get_or s 1 0 + 65536 * get_or s 2 0 + 16777216 * get_or s 3 0 → Halves s 0 r
halves s h small r e =
    record {
      is = omega (arith, long-bytes s 0 (omega arith));
      low = omega (arith, word_bytes s 0 (omega arith), small 0, small 1);
      high = omega (arith, word_bytes s 2 (omega arith), small 0, small 1);
      small = omega (arith, small 0, small 1, small 2, small 3);
    }

-- what the part from a position on begins with stands at the position
pub halves-part : (s : List ℕ) (at r : ℕ) → Halves (take (length s - at) (drop at s)) 0 r → Halves s at r
unfolding word_at long_at
halves-part s at r part =
    let h = rw (take_all (length s - at) (drop at s) (omega (arith, length-drop at s))) at part in
    record { is = h.is; low = h.low; high = rw (← (drop-drop 2 at s)) h.high; small = h.small }
