-- Bytes of a name that a scan has passed.
use Rattle.std.specs.Prelude.{◌≡◌, true, List, ℕ, ◌+◌, ◌-◌, ◌≤◌, ◌<◌, get_or}
use Rattle.std.proofs.Math.Seq.{slice}
use Rattle.shared_words.specs.Lists.{first_fault}
use Rattle.shared_words.specs.Labels.{printable}

-- the n bytes at a position are printable
abbrev pub AllPrintable : List ℕ → ℕ → ℕ → Type 0
AllPrintable s at n = (j : ℕ) → j < n → printable (get_or s (at + j) 0) ≡ true

-- of the bytes from `at` to `end`, those before i are printable
pub record FitsOn (s : List ℕ) (at i end : ℕ) : Type 0 where
  pub from : at ≤ i
  pub to : i ≤ end
  pub on : first_fault printable (slice at end s) ≡ (i - at) + first_fault printable (slice i end s)
