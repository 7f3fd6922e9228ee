-- Eight bytes are four and four.
use mathlib.Core.Path.{◌≡◌}
use mathlib.Core.List.{List}
use Prim.Native.Nat.{ℕ, suc, ◌+◌, ◌*◌, ◌≤◌}
use native.Mathlib.Omega.{arith}
use lib.ListN.{length}
use lib.Seq.{drop-cons}
use Rattle.shared_numbers.specs.Numbers.{long_at}
use Rattle.stick_rules.specs.Records.{eight_at}

pub four-and-four : (s : List ℕ) (at : ℕ) → at + 8 ≤ length s → eight_at s at ≡ long_at s at + 4294967296 * long_at s (at + 4)
unfolding eight_at long_at
four-and-four s at h =
    let z : at + 4 ≡ suc (suc (suc (suc at))) = omega arith in
    rw (
      z,
      drop-cons s at 0 (omega arith),
      drop-cons s (suc at) 0 (omega arith),
      drop-cons s (suc (suc at)) 0 (omega arith),
      drop-cons s (suc (suc (suc at))) 0 (omega arith),
      drop-cons s (suc (suc (suc (suc at)))) 0 (omega arith),
      drop-cons s (suc (suc (suc (suc (suc at))))) 0 (omega arith),
      drop-cons s (suc (suc (suc (suc (suc (suc at)))))) 0 (omega arith),
      drop-cons s (suc (suc (suc (suc (suc (suc (suc at))))))) 0 (omega arith),
    ) (omega arith)
