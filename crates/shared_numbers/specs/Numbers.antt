-- Numbers at a position of a list of bytes, least byte first.
use Rattle.std.specs.Prelude.{◌≡◌, List, ℕ, ◌<◌, ◌^◌, take, drop}
use Rattle.shared_words.specs.Bytes.{value}

unfoldable pub word_at : List ℕ → ℕ → ℕ
word_at s at = value (take 2 (drop at s))

unfoldable pub long_at : List ℕ → ℕ → ℕ
long_at s at = value (take 4 (drop at s))

pub record Word (s : List ℕ) (at r : ℕ) : Type 0 where
  pub is : r ≡ word_at s at
  pub small : r < 2 ^ 16

pub record Long (s : List ℕ) (at r : ℕ) : Type 0 where
  pub is : r ≡ long_at s at
  pub small : r < 2 ^ 32
