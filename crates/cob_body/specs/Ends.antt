-- What the code says of a reading (`Reading` of cob_rules) by positions of a slice.
use Rattle.std.specs.Prelude.{◌≡◌, ℕ, ◌+◌, ◌*◌, ◌<◌, ◌≤◌, ◌^◌, Bool, true, false, not, ◌&&◌, List, Option, Some, None, leb, length, take, drop}
use Rattle.std.proofs.Math.Option.{Option as Maybe, none, some}
use Rattle.shared_words.specs.Bytes.{value, negative}
use Rattle.cob_rules.specs.Body.{Reading}

-- what is left at a position
abbrev pub left_at : List ℕ → Option ℕ → Maybe (List ℕ)
left_at s (Some j) = some (drop j s)
left_at s None = none

-- it lies between two
abbrev pub Between : ℕ → ℕ → Option ℕ → Type 0
Between i n (Some j) = (i ≤ j) × (j ≤ n)
Between i n None = Unit

-- a reading of what stands from i on ends at r
pub record Ends (f : Reading) (s : List ℕ) (i : ℕ) (r : Option ℕ) : Type 0 where
  pub is : f (drop i s) ≡ left_at s r
  pub within : Between i (length s) r

-- ---- counts

-- the count of w bytes that s begins with is whole and not negative
abbrev pub proper : ℕ → List ℕ → Bool
proper w s = leb w (length s) && not (negative w (value (take w s)))

pub record Of (w : ℕ) (s : List ℕ) (i n : ℕ) : Type 0 where
  pub good : proper w (drop i s) ≡ true
  pub is : n ≡ value (take w (drop i s))
  pub whole : i + w ≤ length s
  pub small : 2 * n < 256 ^ w

abbrev pub Tells : ℕ → List ℕ → ℕ → Option ℕ → Type 0
Tells w s i (Some n) = Of w s i n
Tells w s i None = proper w (drop i s) ≡ false

pub record Counts (w : ℕ) (s : List ℕ) (i : ℕ) (r : Option ℕ) : Type 0 where
  pub told : Tells w s i r
