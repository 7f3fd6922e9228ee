-- DEMANDS 2 AND 3 OF CALIGARI FILES, of the calls and in the words of figures (Demand2, Demand3).
use Rattle.std.specs.Prelude.{◌≡◌, ◌↔◌, List, ℕ, ◌≤◌, ◌<◌, length, Ok, Err}
use Rattle.std.proofs.Math.Option.{some}
use Rattle.std.proofs.Math.ListN.{get_elem?}
use Rattle.shared_words.specs.declared.Refusal.TheVariants.{NoRoom}
use Rattle.shared_words.specs.Effects.{leaving, filled}
use Rattle.shared_words.specs.Encodings.{Encoding}
use Rattle.shared_words.specs.Lists.{Pairwise}
use Rattle.shared_words.specs.Refusals.{limit}
use Rattle.shared_flat.specs.Put.{Mark, without, with, Piece, pieces, Moved}
use Rattle.cob_rules.specs.declared.Record.{Record}
use Rattle.cob_rules.specs.Layout.{Chunk, Layout, size, bytes}
use Rattle.cob_rules.specs.Rules.{Meets}
use Rattle.cob_rules.specs.Gives.{list, Mesh, meshes}
use Rattle.cob_rules.specs.Calls.{check_call, list_call, sizes_of, sizes_call, Rows, tables_call}
use Rattle.cob_rules.specs.PutIn.{ending, MayPut, MayTake, SameRecord}

-- ---- demand 2

-- what the calls give of a file s that meets the rules with a layout
pub record Given (s : List ℕ) (l : Layout) : Type 0 where
  pub list-is : (e : Encoding Record ℕ) (row : List ℕ) → length (list l) ≤ e.room (length row) →
      list_call e s row ≡ leaving (Ok (length (list l))) (filled (e.encode (list l)) row)
  -- of each mesh: m has the number `mesh`
  pub sizes_are : (e : Encoding ℕ ℕ) (mesh : ℕ) (m : Mesh) → get_elem? (meshes l) mesh ≡ some m → (row : List ℕ) → 2 ≤ e.room (length row) →
      sizes_call e s mesh row ≡ leaving (Ok 2) (filled (e.encode (sizes_of m)) row)
  pub tables_are : (e : Encoding ℕ ℕ) (mesh : ℕ) (m : Mesh) → get_elem? (meshes l) mesh ≡ some m → (rows : Rows) →
      length m.vertices ≤ e.room (length rows.vertices) → length m.corners ≤ e.room (length rows.corners) →
      tables_call e s mesh rows ≡ leaving (Ok m.vertex_count)
      record { vertices = filled (e.encode m.vertices) rows.vertices; corners = filled (e.encode m.corners) rows.corners }

-- room for both tables of a mesh
abbrev pub RoomForTables : Encoding ℕ ℕ → Rows → Mesh → Type 0
RoomForTables e rows m = (length m.vertices ≤ e.room (length rows.vertices)) × (length m.corners ≤ e.room (length rows.corners))

pub record Demand2 : Type 0 where
  -- accepted exactly when the rules are met, and then with the count of the layout's records
  pub accepted : (s : List ℕ) (n : ℕ) → (check_call s ≡ Ok n) ↔ ((l : Layout) × Meets s l × (n ≡ length (list l)))
  -- the list likewise, given room
  pub listed : (e : Encoding Record ℕ) (s row : List ℕ) (n : ℕ) →
      ((list_call e s row).answer ≡ Ok n) ↔ ((l : Layout) × Meets s l × (n ≡ length (list l)) × (n ≤ e.room (length row)))
  -- the sizes and the tables of a mesh likewise
  pub sized : (e : Encoding ℕ ℕ) (s : List ℕ) (mesh : ℕ) (row : List ℕ) (n : ℕ) →
      ((sizes_call e s mesh row).answer ≡ Ok n) ↔
      ((l : Layout) × Meets s l × ((m : Mesh) × (get_elem? (meshes l) mesh ≡ some m) × (n ≡ 2) × (2 ≤ e.room (length row))))
  pub tabled : (e : Encoding ℕ ℕ) (s : List ℕ) (mesh : ℕ) (rows : Rows) (n : ℕ) →
      ((tables_call e s mesh rows).answer ≡ Ok n) ↔
      ((l : Layout) × Meets s l × ((m : Mesh) × (get_elem? (meshes l) mesh ≡ some m) × (n ≡ m.vertex_count) × RoomForTables e rows m))
  -- and what the calls give is that of the layout
  pub given : (s : List ℕ) (l : Layout) → Meets s l → Given s l

-- ---- demand 3: whole chunks of unlisted types put before any chunk of an accepted file, or taken out, any number together
-- One list with marked chunks tells both files: `without m` are the chunks before END in the file that has them not, `with m` in the
-- file that has them; END is the same in both.

-- s is the file without the chunks ps, and s' the file with them
pub record SameAnswers (ps : List Piece) (s s' : List ℕ) : Type 0 where
  -- both are accepted, with the same chunks of the four types in the same order, each moved
  pub records : List Record
  pub records' : List Record
  pub moved : Pairwise (Moved (λ r. r.offset) SameRecord ps) records records'
  pub accepted : check_call s ≡ Ok (length records)
  pub accepted' : check_call s' ≡ Ok (length records)
  -- with the same room both lists are given, or neither is
  pub list-given : (e : Encoding Record ℕ) (row : List ℕ) → length records ≤ e.room (length row) →
      (list_call e s row ≡ leaving (Ok (length records)) (filled (e.encode records) row)) ×
      (list_call e s' row ≡ leaving (Ok (length records)) (filled (e.encode records') row))
  pub list-refused : (e : Encoding Record ℕ) (row : List ℕ) → e.room (length row) < length records →
      (list_call e s row ≡ leaving (Err (NoRoom (length records))) row) ×
      (list_call e s' row ≡ leaving (Err (NoRoom (length records))) row)
  -- every mesh has the same sizes, and the same tables bit for bit
  pub sizes-same : (e : Encoding ℕ ℕ) (mesh : ℕ) (row : List ℕ) → sizes_call e s' mesh row ≡ sizes_call e s mesh row
  pub tables-same : (e : Encoding ℕ ℕ) (mesh : ℕ) (rows : Rows) → tables_call e s' mesh rows ≡ tables_call e s mesh rows

pub record Demand3 : Type 0 where
  -- chunks put into an accepted file, the result within the length limit
  pub put_in_lem : (m : List (Mark Chunk)) (last : Chunk) (s : List ℕ) → Meets s (ending last (without m)) → MayPut m →
      length (bytes (ending last (with m))) ≤ limit → SameAnswers (pieces size 32 m) s (bytes (ending last (with m)))
  -- chunks taken out of an accepted file
  pub taken_out : (m : List (Mark Chunk)) (last : Chunk) (s' : List ℕ) → Meets s' (ending last (with m)) → MayTake m →
      SameAnswers (pieces size 32 m) (bytes (ending last (without m))) s'
