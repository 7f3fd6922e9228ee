-- A slip: a list of entries. And its bytes.
use Rattle.std.specs.Prelude.{ℕ, ◌+◌, List, [], ◌∷◌, ◌++◌, length}
use Rattle.shared_words.specs.Bytes.{be}

-- an entry: a name, the file's length, and the two sums of the file
pub record Entry : Type 0 where
  pub name : List ℕ
  pub file : ℕ
  pub first : ℕ
  pub second : ℕ

-- "each entry is a 1-byte name length, the name, a 4-byte file length and two sum bytes, all big-endian"
abbrev pub sum_bytes : Entry → List ℕ
sum_bytes e = e.first ∷ e.second ∷ []

abbrev pub behind_name : Entry → List ℕ
behind_name e = be 4 e.file ++ sum_bytes e

abbrev pub entry_bytes : Entry → List ℕ
entry_bytes e = length e.name ∷ e.name ++ behind_name e

-- how many they are
abbrev pub entry_size : Entry → ℕ
entry_size e = 7 + length e.name

abbrev pub all_bytes : List Entry → List ℕ
all_bytes [] = []
all_bytes (e ∷ es) = entry_bytes e ++ all_bytes es

-- "a 4-byte length of the rest, then a 2-byte count"
abbrev pub rest : List Entry → List ℕ
rest es = be 2 (length es) ++ all_bytes es

-- "version byte 1", and the length: it counts what stands behind it, so the count too
abbrev pub bytes : List Entry → List ℕ
bytes es = 1 ∷ be 4 (length (rest es)) ++ rest es
