-- The bytes at a position: the first of those that follow it, and those of a number.
use mathlib.Core.Path.{◌≡◌, ap, ◌∙◌}
use mathlib.Core.List.{List}
use Prim.Native.Nat.{ℕ, suc, ◌+◌, ◌*◌, ◌≤◌}
use native.Mathlib.Numerals.{add-one, add-two, add-three}
use native.Mathlib.Omega.{arith}
use lib.ListN.{length, drop, get_or}
use lib.Seq.{drop-cons, get_or-drop}
use Rattle.shared_numbers.specs.Numbers.{word_at, long_at}

pub head_is : (s : List ℕ) (at : ℕ) → get_or (drop at s) 0 0 ≡ get_or s at 0
head_is s at = get_or-drop at s 0 0 ∙ ap (λ (k : ℕ). get_or s k 0) (omega arith)

pub word_bytes : (s : List ℕ) (at : ℕ) → at + 2 ≤ length s → word_at s at ≡ get_or s at 0 + 256 * get_or s (at + 1) 0
unfolding word_at
word_bytes s at h = rw (drop-cons s at 0 (omega arith), drop-cons s (suc at) 0 (omega arith), add-one at) (omega arith)

pub long-bytes : (s : List ℕ) (at : ℕ) → at + 4 ≤ length s →
    long_at s at ≡ get_or s at 0 + 256 * get_or s (at + 1) 0 + 65536 * get_or s (at + 2) 0 + 16777216 * get_or s (at + 3) 0
unfolding long_at
long-bytes s at h =
    rw (
      drop-cons s at 0 (omega arith),
      drop-cons s (suc at) 0 (omega arith),
      drop-cons s (suc (suc at)) 0 (omega arith),
      drop-cons s (suc (suc (suc at))) 0 (omega arith),
      add-one at,
      add-two at,
      add-three at,
    ) (omega arith)
