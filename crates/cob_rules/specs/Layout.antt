-- A layout: what chunks a Caligari file is made of. And its bytes.
use Rattle.std.specs.Prelude.{ℕ, ◌+◌, List, [], ◌∷◌, ◌++◌, length, take}
use Rattle.cob_rules.specs.Fields.{field}
use Rattle.cob_rules.specs.declared.Kind.{Kind}
use Rattle.shared_words.specs.Lists.{total}
use Rattle.cob_rules.specs.Kinds.{kind_of}

-- a chunk: the 20 bytes of its header, and its body
pub record Chunk : Type 0 where
  pub head : List ℕ
  pub body : List ℕ

-- "The binary header is as follows": 4 bytes type, 2 and 2 bytes version, then 4 bytes each
abbrev pub kind : Chunk → Kind
kind c = kind_of (take 8 c.head)

abbrev pub letters : Chunk → ℕ
letters c = field 0 4 c.head

abbrev pub identifier : Chunk → ℕ
identifier c = field 8 4 c.head

abbrev pub parent : Chunk → ℕ
parent c = field 12 4 c.head

abbrev pub size_field : Chunk → ℕ
size_field c = field 16 4 c.head

-- length with header
abbrev pub size : Chunk → ℕ
size c = length c.head + length c.body

-- the chunks of a file before its END, and its END
pub record Layout : Type 0 where
  pub chunks : List Chunk
  pub last : Chunk

-- ---- bytes

-- "Caligari ", "V00.01", "B", "LH", 13 spaces and a newline
abbrev pub file_header : List ℕ
file_header =
    0x43 ∷ 0x61 ∷ 0x6C ∷ 0x69 ∷ 0x67 ∷ 0x61 ∷ 0x72 ∷ 0x69 ∷ 0x20 ∷
    0x56 ∷ 0x30 ∷ 0x30 ∷ 0x2E ∷ 0x30 ∷ 0x31 ∷
    0x42 ∷
    0x4C ∷ 0x48 ∷
    0x20 ∷ 0x20 ∷ 0x20 ∷ 0x20 ∷ 0x20 ∷ 0x20 ∷ 0x20 ∷ 0x20 ∷ 0x20 ∷ 0x20 ∷ 0x20 ∷ 0x20 ∷ 0x20 ∷
    0x0A ∷ []

abbrev pub chunk_bytes : Chunk → List ℕ
chunk_bytes c = c.head ++ c.body

abbrev pub all_bytes : List Chunk → List ℕ
all_bytes [] = []
all_bytes (c ∷ cs) = chunk_bytes c ++ all_bytes cs

abbrev pub bytes : Layout → List ℕ
bytes l = file_header ++ (all_bytes l.chunks ++ chunk_bytes l.last)

-- the offset of END
abbrev pub last_at : Layout → ℕ
last_at l = 32 + total size l.chunks
