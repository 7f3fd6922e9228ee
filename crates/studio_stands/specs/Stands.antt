-- A run of chunks that stands in a file, and a header that does.
use Rattle.std.specs.Prelude.{◌≡◌, List, ℕ, ◌+◌, ◌≤◌, ◌<◌, ◌^◌, length}
use Rattle.std.proofs.Math.Seq.{slice}
use Rattle.studio_rules.specs.Layout.{Run, bytes}
use Rattle.shared_numbers.specs.Numbers.{word_at, long_at}

-- the run t is what stands in the file s from `at` to `stop`
pub record Stands (t : Run) (s : List ℕ) (at stop : ℕ) : Type 0 where
  pub order : at ≤ stop
  pub stays : stop ≤ length s
  pub small : length s < 2 ^ 32
  pub is : bytes t ≡ slice at stop s

-- at `at` begins a chunk of this identifier and length, which ends by `stop`
pub record Headed (s : List ℕ) (at stop id n : ℕ) : Type 0 where
  pub six : at + 6 ≤ stop
  pub ends : at + n ≤ stop
  pub id-is : word_at s at ≡ id
  pub length-is : long_at s (at + 2) ≡ n
