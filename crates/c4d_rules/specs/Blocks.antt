-- Chunks and sub-chunks alike: a header, which tells an identifier and a size, and as many bytes behind it.
use Rattle.std.specs.Prelude.{◌≡◌, ℕ, ◌+◌, List, [], ◌∷◌, ◌++◌, length, take, drop}
use Rattle.shared_words.specs.Bytes.{value_be}

-- a sub-chunk, or a chunk that is not looked into
pub record Block : Type 0 where
  pub head : List ℕ
  pub body : List ℕ

-- how many bytes a header has for the identifier, and for the size behind it
pub record Header : Type 0 where
  pub identifier_bytes : ℕ
  pub size_bytes : ℕ

-- "4 bytes: Chunk identification, 4 bytes: Size of the chunk"
abbrev pub chunk_header : Header
chunk_header = record { identifier_bytes = 4; size_bytes = 4 }

-- "2 bytes: Subchunk ID, 2 bytes: Subchunk 'size'"
abbrev pub material_header : Header
material_header = record { identifier_bytes = 2; size_bytes = 2 }

-- "4 bytes: Subchunk ID and size, subid = (val >> 24), subsize = val & 16777215"
abbrev pub object_header : Header
object_header = record { identifier_bytes = 1; size_bytes = 3 }

abbrev pub width : Header → ℕ
width h = h.identifier_bytes + h.size_bytes

-- what a header tells
abbrev pub identifier : Header → List ℕ → ℕ
identifier h head = value_be (take h.identifier_bytes head)

abbrev pub told : Header → List ℕ → ℕ
told h head = value_be (drop h.identifier_bytes head)

-- length with header
abbrev pub size : Block → ℕ
size b = length b.head + length b.body

-- "Sizes, unsigned, count the bytes after the size field; no padding."
pub record Framed (h : Header) (b : Block) : Type 0 where
  pub header-whole : length b.head ≡ width h
  pub size-told : told h b.head ≡ length b.body

-- ---- bytes

abbrev pub block_bytes : Block → List ℕ
block_bytes b = b.head ++ b.body

-- of things one after another, each of which is a block
abbrev pub all_bytes : {A : Type 0} → (A → Block) → List A → List ℕ
all_bytes block [] = []
all_bytes block (a ∷ rest) = block_bytes (block a) ++ all_bytes block rest

abbrev pub itself : Block → Block
itself b = b
