-- A layout: what chunks a file is made of. And its bytes.
use Rattle.std.specs.Prelude.{ℕ, ◌+◌, cond, List, [], ◌∷◌, ◌++◌, eqb, length, take, drop}
use Rattle.shared_words.specs.Bytes.{le}

-- A run of chunks ends, or begins with a chunk and goes on with the rest of the run. The chunk is skipped, with its
-- identifier and its inside; or known, with its identifier, its own data and its children.
-- (A known chunk is 4D4D, or a chunk whose identifier has a row and whose parent is known.)
pub data Run : Type 0 where
  end : Run
  skip : ℕ → List ℕ → Run → Run
  known : ℕ → List ℕ → Run → Run → Run

-- one run behind another
infixr 5 ◌then◌
abbrev pub ◌then◌ : Run → Run → Run
end then t = t
(skip id body rest) then t = skip id body (rest then t)
(known id own kids rest) then t = known id own kids (rest then t)

-- the whole file, by the children of its one chunk 4D4D
abbrev pub figure : Run → Run
figure kids = known 0x4D4D [] kids end

-- ---- bytes

-- how many bytes a run has; a chunk has 6 header bytes
abbrev pub size : Run → ℕ
size end = 0
size (skip id body rest) = 6 + length body + size rest
size (known id own kids rest) = 6 + length own + size kids + size rest

-- a 2-byte identifier, and a 4-byte length that counts the header too
abbrev pub header : ℕ → ℕ → List ℕ
header id n = le 2 id ++ le 4 n

abbrev pub bytes : Run → List ℕ
bytes end = []
bytes (skip id body rest) = header id (6 + length body) ++ (body ++ bytes rest)
bytes (known id own kids rest) = header id (6 + length own + size kids) ++ (own ++ (bytes kids ++ bytes rest))

-- bytes with n in the length field of the chunk at o: four bytes, behind the identifier's two
abbrev pub with_length : ℕ → ℕ → List ℕ → List ℕ
with_length o n s = take (o + 2) s ++ (le 4 n ++ drop (o + 6) s)

-- ---- the children of one chunk

-- the identifiers of the known ones
abbrev pub identifiers : Run → List ℕ
identifiers end = []
identifiers (skip id body rest) = identifiers rest
identifiers (known id own kids rest) = id ∷ identifiers rest

-- own data of the first of an identifier; empty where there is none
abbrev pub child : ℕ → Run → List ℕ
child x end = []
child x (skip id body rest) = child x rest
child x (known id own kids rest) = cond (eqb id x) own (child x rest)

-- the children of the first of an identifier; none where there is none
abbrev pub held : ℕ → Run → Run
held x end = end
held x (skip id body rest) = held x rest
held x (known id own kids rest) = cond (eqb id x) kids (held x rest)

-- the offset of the first of an identifier, in a run that begins at o
abbrev pub offset_of : ℕ → ℕ → Run → ℕ
offset_of x o end = o
offset_of x o (skip id body rest) = offset_of x (o + (6 + length body)) rest
offset_of x o (known id own kids rest) = cond (eqb id x) o (offset_of x (o + (6 + length own + size kids)) rest)
