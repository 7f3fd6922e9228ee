-- Blocks by their positions in the file, as code steps over them.
use Rattle.std.specs.Prelude.{◌≡◌, ℕ, ◌+◌, ◌/◌, ◌%◌, ◌<◌, ◌≤◌, Option, Some, None, List, length}
use Rattle.std.proofs.Math.Option.{Option as Maybe, none, some}
use Rattle.std.proofs.Math.Seq.{slice}
use Rattle.shared_words.specs.declared.Refusal.{Refusal}
use Rattle.shared_words.specs.declared.Refusal.TheVariants.{Overrun}
use Rattle.shared_words.specs.Conditions.{broken}
use Rattle.c4d_rules.specs.Blocks.{Block, Header, object_header, width, identifier, told}
use Rattle.c4d_rules.specs.Read.{block_at, block_conditions}
use Rattle.c4d_blocks.specs.declared.Block.{Block as Seen}

-- the block at a position, where `to` is the end of what it stands in
abbrev pub block_in : Header → List ℕ → ℕ → ℕ → Block
block_in h s at to = block_at h (slice at to s)

-- whether it passes that end
abbrev pub overrun : Header → List ℕ → ℕ → ℕ → Maybe Refusal
overrun h s at to = broken (block_conditions h at (length (slice at to s)) (block_in h s at to))

-- it does not, and its header tells this
pub record Tells (h : Header) (s : List ℕ) (at to id len : ℕ) : Type 0 where
  pub whole : overrun h s at to ≡ none
  pub id-is : id ≡ identifier h (block_in h s at to).head
  pub told_is : len ≡ told h (block_in h s at to).head
  pub len_is : len ≡ length (block_in h s at to).body
  pub fits : at + (width h + len) ≤ to

abbrev pub Sees : Header → List ℕ → ℕ → ℕ → Option Seen → Type 0
Sees h s at to None = overrun h s at to ≡ some (Overrun at)
Sees h s at to (Some b) = Tells h s at to b.id b.len

-- The number that an object's header at a position is read as. Where there is no room for one, it is more than four bytes can hold.
pub record Headed (s : List ℕ) (at to head : ℕ) : Type 0 where
  pub absent : to < at + 4 → head ≡ 0x1_0000_0000
  pub small : at + 4 ≤ to → head < 0x1_0000_0000
  pub id-is : at + 4 ≤ to → head / 16777216 ≡ identifier object_header (block_in object_header s at to).head
  pub told_is : at + 4 ≤ to → head % 16777216 ≡ told object_header (block_in object_header s at to).head
