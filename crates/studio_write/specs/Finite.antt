-- The writer's test of a float is the reader's test of its bits. (The writer is given floats, and the language lets nobody look
-- at the bits of one that may be not a number.)
use Rattle.std.specs.Prelude.{◌≡◌, ℕ}
use Rattle.shared_words.specs.Floats.{finite, float}
use Rattle.studio_write_judge.specs.Judged.{finite_float}

abbrev pub SameTest : Type 0
SameTest = (bits : ℕ) → finite_float (float bits) ≡ finite bits
