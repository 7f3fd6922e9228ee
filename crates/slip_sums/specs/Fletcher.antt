-- The 8-bit Fletcher sum of RFC 1146, as docs/SLIP.md says it: first the sum of all bytes, second the sum of the running
-- first sums, both as remainders modulo 255.
use Rattle.std.specs.Prelude.{◌≡◌, List, [], ◌∷◌, ℕ, ◌+◌, ◌%◌, length}
use Rattle.slip_sums.specs.declared.Sum.{Sum}

-- the sum of the numbers of a list
abbrev pub total : List ℕ → ℕ
total [] = 0
total (n ∷ s) = n + total s

-- the running sums of a list, begun at a: after each number the sum of all up to it
abbrev pub running : ℕ → List ℕ → List ℕ
running a [] = []
running a (n ∷ s) = (a + n) ∷ running (a + n) s

-- the sum of a file, with its length
abbrev pub sum_of : List ℕ → Sum
sum_of s = record { len = length s; first = total s % 255; second = total (running 0 s) % 255 }

-- ---- BYTE BY BYTE, as the RFC computes it, with a remainder at each step, the sums are the same

-- one byte more
abbrev pub with_byte : Sum → ℕ → Sum
with_byte a b = record { len = a.len + 1; first = (a.first + b) % 255; second = (a.second + (a.first + b) % 255) % 255 }

abbrev pub with_bytes : Sum → List ℕ → Sum
with_bytes a [] = a
with_bytes a (b ∷ s) = with_bytes (with_byte a b) s

abbrev pub ByteByByte : Type 0
ByteByByte = (s : List ℕ) → with_bytes (sum_of []) s ≡ sum_of s
