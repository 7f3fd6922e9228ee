-- What docs/FORMAT.md says of the floats of a table, as a statement about the definitions of crate studio_rules.
use Rattle.std.specs.Prelude.{◌≡◌, true, List, map, ℕ, drop}
use Rattle.std.specs.Float.{binary32}
use Rattle.std.specs.Float.Ieee.{to_bits}
use Rattle.shared_words.specs.Bytes.{Bytes, numbers}
use Rattle.shared_words.specs.Lists.{every}
use Rattle.shared_words.specs.Floats.{finite}
use Rattle.shared_words.specs.Floats.{float}

-- what is in a row of floats, read back as bits, is what stands in the file
abbrev pub BitForBit : Type 0
BitForBit =
    (s : List ℕ) → Bytes s → (at n : ℕ) →
    every finite (numbers 4 n (drop at s)) ≡ true → map (to_bits binary32) (map float (numbers 4 n (drop at s))) ≡ numbers 4 n (drop at s)
