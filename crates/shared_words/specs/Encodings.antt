-- How the things that a call gives out stand in a lent row: as numbers, as floats, or as little-endian bytes. A part of
-- one at a row's end is no room.
use Rattle.std.specs.Prelude.{ℕ, ◌/◌, min, List, map, Float}
use Rattle.shared_words.specs.Bytes.{packed}
use Rattle.shared_words.specs.Floats.{float}

-- things X in a row of A: how many a row of a length has room for, and what they are there
pub record Encoding (X A : Type 0) : Type 0 where
  pub room : ℕ → ℕ
  pub encode : List X → List A

-- as they are
abbrev pub plain_row : {X : Type 0} → Encoding X X
plain_row = record { room = λ n. n; encode = λ xs. xs }

-- bits as floats
abbrev pub float_row : Encoding ℕ Float
float_row = record { room = λ n. n; encode = map float }

-- w bytes a number
abbrev pub number_bytes : ℕ → Encoding ℕ ℕ
number_bytes w = record { room = λ n. n / w; encode = packed w }

-- a row beside another that has room for k things: there is room for what both take
abbrev pub beside : {X A : Type 0} → ℕ → Encoding X A → Encoding X A
beside k e = record { room = λ n. min k (e.room n); encode = e.encode }
