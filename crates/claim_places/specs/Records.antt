-- A RECORD OF THE LIST POINTS AT ITS CHUNK: at its offset stand its identifier and its length.
use Rattle.std.specs.Prelude.{◌≡◌, List, ℕ, ◌+◌, ◌≤◌, length, take, drop, Ok}
use Rattle.shared_words.specs.Bytes.{Bytes}
use Rattle.shared_words.specs.Lists.{All}
use Rattle.shared_words.specs.Encodings.{plain_row}
use Rattle.studio_rules.specs.declared.Record.{Record}
use Rattle.studio_rules.specs.declared.Counts.{Counts}
use Rattle.studio_rules.specs.Layout.{header}
use Rattle.studio_rules.specs.Calls.{list_call}

pub record PointsAtChunk (s : List ℕ) (r : Record) : Type 0 where
  pub header-there : take 6 (drop r.offset s) ≡ header r.identifier r.len
  -- the chunk lies in the file, and its own data in it
  pub in_file_lem : r.offset + r.len ≤ length s
  pub own_in_chunk : 6 + r.own ≤ r.len

-- of every record that a call leaves in a table
abbrev pub RecordsPoint : Type 0
RecordsPoint = (s : List ℕ) → Bytes s → (table : List Record) (counts : Counts) → (list_call plain_row s table).answer ≡ Ok counts →
    All (PointsAtChunk s) (take counts.records (list_call plain_row s table).rows)
