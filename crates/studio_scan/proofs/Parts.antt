-- Numbers in a part of a list are those of the whole.
use mathlib.Core.Path.{◌≡◌, refl}
use mathlib.Core.List.{List}
use Prim.Native.Nat.{ℕ, zero, suc, ◌+◌, ◌*◌, ◌≤◌}
use native.Mathlib.Nat.{mul-suc}
use native.Mathlib.Omega.{arith}
use lib.ListN.{take, drop}
use lib.Seq.{slice, drop-drop}
use Rattle.shared_words.specs.Bytes.{value, numbers}
use Rattle.studio_rules.specs.OwnData.{corners}
use Rattle.shared_numbers.proofs.Slices.{drop-slice, front-slice}

pub numbers-slice : (w n a e : ℕ) (s : List ℕ) → a + w * n ≤ e → numbers w n (slice a e s) ≡ numbers w n (drop a s)
numbers-slice w zero a e s h = refl
numbers-slice w (suc n) a e s h =
    let l : a + (w * n + w) ≤ e = rw mul-suc at h in
    rw (front-slice w a e s (omega arith), drop-slice w a e s, drop-drop w a s, numbers-slice w n (a + w) e s (omega arith))

-- a word at a distance
word_on : (k a e : ℕ) (s : List ℕ) → a + k + 2 ≤ e → value (take 2 (drop k (slice a e s))) ≡ value (take 2 (drop k (drop a s)))
word_on k a e s h = rw (drop-slice k a e s, front-slice 2 (a + k) e s h, drop-drop k a s)

pub corners-slice : (n a e : ℕ) (s : List ℕ) → a + 8 * n ≤ e → corners n (slice a e s) ≡ corners n (drop a s)
corners-slice zero a e s h = refl
corners-slice (suc n) a e s h =
    rw (
      front-slice 2 a e s (omega arith),
      word_on 2 a e s (omega arith),
      word_on 4 a e s (omega arith),
      drop-slice 8 a e s,
      drop-drop 8 a s,
      corners-slice n (a + 8) e s (omega arith),
    )
