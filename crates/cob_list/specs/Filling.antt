-- The pass that fills the row; and what its functions promise.
use Rattle.std.specs.Prelude.{◌≡◌, ℕ, suc, ◌-◌, ◌*◌, ◌≤◌, true, false, cond, Option, Some, None, List, [], ◌∷◌, eqb, length}
use Rattle.shared_words.specs.Conditions.{accepted}
use Rattle.shared_words.specs.Effects.{filled}
use Rattle.shared_numbers.specs.Put.{placed, Put}
use Rattle.cob_rules.specs.declared.Record.{Record}
use Rattle.cob_rules.specs.Kinds.{listed}
use Rattle.cob_rules.specs.Layout.{Chunk, kind, letters, identifier, parent, Layout}
use Rattle.cob_rules.specs.Walk.{verdict}
use Rattle.cob_rules.specs.Gives.{list}
use Rattle.cob_rules.specs.Calls.{record_bytes}
use Rattle.cob_rules.specs.Theorems.{seen_in}
use Rattle.cob_seen.specs.Tree.{Represents, number_in}
use Rattle.cob_owner.specs.Top.{top_of}
use Rattle.cob_step.specs.Steps.{Holds}
use Rattle.cob_chunk.specs.Chunks.{chunk_in}

-- ---- owners by their nodes

abbrev pub top_from : List ℕ → ℕ → Option ℕ → ℕ
top_from up k (Some p) = top_of up p
top_from up k None = k

-- the node of the topmost owner of node k, whose parent has an identifier
abbrev pub top_for : List ℕ → ℕ → List ℕ → ℕ → ℕ → ℕ
top_for ids count up k parent = cond (eqb parent 0) k (top_from up k (number_in ids count parent))

-- ---- records

abbrev pub record_with : Chunk → ℕ → ℕ → ℕ → Record
record_with c o n owner = record { kind = letters c; offset = o; len = n; identifier = identifier c; parent = parent c; owner = owner }

-- the record of the chunk at an offset, put at a position if the chunk is listed
pub record PutListed (s : List ℕ) (at next owner : ℕ) (row : List ℕ) (to : ℕ) (row' : List ℕ) (to' : ℕ) : Type 0 where
  pub yes : listed (kind (chunk_in s at)) ≡ true → Put row to (record_bytes.encode (record_with (chunk_in s at) at (next - at) owner ∷ [])) row' to'
  pub no : listed (kind (chunk_in s at)) ≡ false → (row' ≡ row) × (to' ≡ to)

-- the record of an END that is the rest of the file, put at a position
abbrev pub rest_record : List ℕ → ℕ → Record
rest_record s at = record { kind = letters (chunk_in s at); offset = at; len = length s - at; identifier = 0; parent = 0; owner = 0 }

pub record EndPut (s : List ℕ) (at : ℕ) (row : List ℕ) (to : ℕ) (row' : List ℕ) : Type 0 where
  pub is : row' ≡ placed row to (record_bytes.encode (rest_record s at ∷ []))

-- ---- the pass

-- an accepted file, the search tree of its identifiers, and room for its records
pub record Fillable (s : List ℕ) (count : ℕ) (ids links row : List ℕ) : Type 0 where
  pub layout : Layout
  pub is : verdict s ≡ accepted layout
  pub nodes_are : count ≡ suc (length layout.chunks)
  pub tree : Represents ids links count
  pub holds : Holds ids (seen_in layout)
  pub room : 24 * length (list layout) ≤ length row

pub record Fills (s row row' : List ℕ) : Type 0 where
  pub told : (l : Layout) → verdict s ≡ accepted l → row' ≡ filled (record_bytes.encode (list l)) row
