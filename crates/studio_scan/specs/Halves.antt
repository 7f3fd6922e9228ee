-- A 4-byte number and the two words that it is made of.
use Rattle.std.specs.Prelude.{◌≡◌, List, ℕ, ◌+◌, ◌/◌, ◌%◌, ◌<◌, ◌^◌}
use Rattle.shared_numbers.specs.Numbers.{word_at, long_at}

-- r is the number at a position
pub record Halves (s : List ℕ) (at r : ℕ) : Type 0 where
  pub is : r ≡ long_at s at
  pub low : r % 2 ^ 16 ≡ word_at s at
  pub high : r / 2 ^ 16 ≡ word_at s (at + 2)
  pub small : r < 2 ^ 32
