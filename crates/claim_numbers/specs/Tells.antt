-- HOW C IS TOLD. One 64-bit number answers a call: an answer proper is below 2^32, and so is never taken for a refusal; of a
-- refusal the number and the place are read off.
use Rattle.std.specs.Prelude.{◌≡◌, ℕ, ◌-◌, ◌/◌, ◌%◌, ◌<◌, ◌^◌, min}
use Rattle.shared_words.specs.declared.Refusal.{Refusal}
use Rattle.shared_words.specs.Refusals.{number_of, place_of}

-- n is an answer proper
abbrev pub Proper : ℕ → Type 0
Proper n = n < 2 ^ 32

-- n tells the refusal r, its number and its place
pub record Tells (r : Refusal) (n : ℕ) : Type 0 where
  pub number : n / 2 ^ 32 ≡ number_of r
  pub place : n % 2 ^ 32 ≡ place_of r

-- the same, but that a place of more than 32 bits is told as the largest
pub record TellsCapped (r : Refusal) (n : ℕ) : Type 0 where
  pub number : n / 2 ^ 32 ≡ number_of r
  pub place : n % 2 ^ 32 ≡ min (place_of r) (2 ^ 32 - 1)
