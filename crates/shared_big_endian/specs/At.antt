-- What the functions that read promise: the number of w bytes at a position, which has w bytes.
use Rattle.std.specs.Prelude.{◌≡◌, List, ℕ, ◌^◌, ◌<◌}
use Rattle.shared_words.specs.Bytes.{be_at}

pub record Number (w : ℕ) (s : List ℕ) (at r : ℕ) : Type 0 where
  pub is : r ≡ be_at at w s
  pub small : r < 256 ^ w
