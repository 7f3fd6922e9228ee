-- What is known of the entries once they are judged, so that each number fits where it is put.
use Rattle.std.specs.Prelude.{◌≡◌, ℕ, ◌+◌, ◌/◌, ◌≤◌, List, length}
use Rattle.shared_words.specs.Lists.{All}
use Rattle.slip_rules.specs.declared.Numbers.{Numbers}
use Rattle.slip_rules.specs.Slip.{bytes}
use Rattle.slip_rules.specs.Rules.{most_entries}
use Rattle.slip_rules.specs.Calls.{entries_from, given_bytes}

-- one entry beside the names
pub record Fitting (names : List ℕ) (n : Numbers) : Type 0 where
  pub inside : n.name + n.len ≤ length names
  pub short : n.len ≤ 255
  pub second : n.sums / 256 ≤ 254

-- all entries, for a slip of `size` bytes in a buffer of `room`
pub record Ready (names s : List ℕ) (size room : ℕ) : Type 0 where
  pub fitting : All (Fitting names) (given_bytes s).rows
  pub few : length s / 16 ≤ most_entries
  pub is : length (bytes (entries_from names (given_bytes s).rows)) ≡ size
  pub fits : size ≤ room
