-- The two sums of a few bytes, before the remainders are taken.
use Rattle.std.specs.Prelude.{◌≡◌, List, ℕ, ◌*◌, ◌≤◌}
use Rattle.slip_sums.specs.Fletcher.{total, running}

-- with bounds for at most 128 bytes
pub record TotalsOf (s : List ℕ) (first second : ℕ) : Type 0 where
  pub first-is : first ≡ total s
  pub second_is : second ≡ total (running 0 s)
  pub first_small : first ≤ 255 * 128
  pub second_small : second ≤ 255 * 128 * 128
