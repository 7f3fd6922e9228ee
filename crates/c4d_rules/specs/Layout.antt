-- A layout: what chunks a Cinema 4D file is made of, MAT4 and OBJ5 as their sub-chunks. And its bytes.
use Rattle.std.specs.Prelude.{ℕ, ◌+◌, List, [], ◌∷◌, ◌++◌, length}
use Rattle.shared_words.specs.Bytes.{be}
use Rattle.c4d_rules.specs.Blocks.{Block, chunk_header, identifier, size, all_bytes, itself}
use Rattle.c4d_rules.specs.Kinds.{Kind, kind_of}

-- what is behind a chunk's header: bytes that are not looked at, or sub-chunks
pub data Inside : Type 0 where
  plain : List ℕ → Inside
  subs : List Block → Inside

pub record Chunk : Type 0 where
  pub head : List ℕ
  pub inside : Inside

abbrev pub Layout : Type 0
Layout = List Chunk

abbrev pub kind : Chunk → Kind
kind c = kind_of (identifier chunk_header c.head)

abbrev pub sub_chunks : Inside → List Block
sub_chunks (plain rest) = []
sub_chunks (subs bs) = bs

-- ---- bytes

abbrev pub inside_bytes : Inside → List ℕ
inside_bytes (plain rest) = rest
inside_bytes (subs bs) = all_bytes itself bs

abbrev pub block : Chunk → Block
block c = record { head = c.head; body = inside_bytes c.inside }

abbrev pub chunk_size : Chunk → ℕ
chunk_size c = size (block c)

abbrev pub form : List ℕ
form = 0x46 ∷ 0x4F ∷ 0x52 ∷ 0x4D ∷ []

abbrev pub mc4d : List ℕ
mc4d = 0x4D ∷ 0x43 ∷ 0x34 ∷ 0x44 ∷ []

-- 'FORM', "Size of the file (starting at this position)", 'MC4D'
abbrev pub file_header : ℕ → List ℕ
file_header n = form ++ (be 4 n ++ mc4d)

-- The size counts the bytes after its own field: 'MC4D' and the chunks. So it is the file's less 8.
abbrev pub bytes : Layout → List ℕ
bytes l = file_header (4 + length (all_bytes block l)) ++ all_bytes block l
