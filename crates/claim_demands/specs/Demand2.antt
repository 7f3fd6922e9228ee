-- DEMAND 2 of docs/DEMANDS.md, of the calls. "Given room, a file within the length limit is accepted exactly when it meets
-- the chunk rules … The list, tables and byte counts are those the rules give. A figure we write is accepted and reads back
-- to the same name, numbers and corners."
use Rattle.std.specs.Prelude.{◌≡◌, ◌↔◌, List, true, ℕ, ◌+◌, ◌≤◌, ◌<◌, length, Ok}
use Rattle.std.proofs.Math.Option.{some}
use Rattle.std.proofs.Math.ListN.{get_elem?}
use Rattle.studio_rules.specs.declared.Record.{Record}
use Rattle.studio_rules.specs.declared.Counts.{Counts}
use Rattle.studio_rules.specs.declared.Sizes.{Sizes}
use Rattle.shared_words.specs.Bytes.{Bytes}
use Rattle.studio_rules.specs.Layout.{Run, figure}
use Rattle.studio_rules.specs.Rules.{Meets}
use Rattle.studio_rules.specs.Gives.{record_count, list, Mesh, meshes, Part, parts}
use Rattle.studio_rules.specs.Box.{bounding_box_of, centre_of}
use Rattle.shared_words.specs.Encodings.{Encoding}
use Rattle.shared_words.specs.Effects.{leaving, filled}
use Rattle.studio_rules.specs.Calls.{counts_of, check_call, list_call, Rows, Tables, fits, sizes_of, rows_with, tables_call, name_call, box_call, parts_call, box_answer}
use Rattle.studio_meshes_rules.specs.Standing.{Standing, standing}
use Rattle.studio_meshes_rules.specs.Calls.{meshes_call}
use Rattle.studio_write.specs.ReadsBack.{WrittenReadsBack}
use Rattle.studio_figure_rules.specs.ReadsBack.{FlatReadsBack}

-- ---- room, in whole records or numbers

abbrev pub RoomFor : {X A : Type 0} → Encoding X A → ℕ → List A → Type 0
RoomFor e n row = n ≤ e.room (length row)

-- for those tables of a mesh that are asked for
pub record RoomForTables {A B C : Type 0} (t : Tables A B C) (rows : Rows A B C) (m : Mesh) : Type 0 where
  pub vertices : fits t.vertices m.vertices rows.vertices ≡ true
  pub corners : fits t.corners m.corners rows.corners ≡ true
  pub mapping : fits t.mapping m.mapping rows.mapping ≡ true

-- ---- what the calls give of a file s that meets the rules with a layout

pub record Given (s : List ℕ) (kids : Run) : Type 1 where
  pub counts-add : (counts_of kids).headers + (counts_of kids).own + (counts_of kids).skipped ≡ length s
  pub list-is : {A : Type 0} (e : Encoding Record A) (row : List A) → RoomFor e (record_count (figure kids)) row →
      list_call e s row ≡ leaving (Ok (counts_of kids)) (filled (e.encode (list kids)) row)
  -- of each mesh: m has the number `mesh`
  pub tables_are : {A B C : Type 0} (t : Tables A B C) (mesh : ℕ) (m : Mesh) → get_elem? (meshes kids) mesh ≡ some m →
      (rows : Rows A B C) → RoomForTables t rows m → tables_call t s mesh rows ≡ leaving (Ok (sizes_of m)) (rows_with t rows m)
  pub parts_are : {A : Type 0} (e : Encoding Part A) (row : List A) → RoomFor e (length (parts kids)) row →
      parts_call e s row ≡ leaving (Ok (length (parts kids))) (filled (e.encode (parts kids)) row)
  pub meshes_are : {A : Type 0} (e : Encoding Standing A) (row : List A) → RoomFor e (length (standing kids)) row →
      meshes_call e s row ≡ leaving (Ok (length (standing kids))) (filled (e.encode (standing kids)) row)
  pub name-is : (mesh : ℕ) (m : Mesh) → get_elem? (meshes kids) mesh ≡ some m →
      name_call s mesh ≡ Ok record { offset = m.name_at; size = m.name_length }
  pub box-is : (mesh : ℕ) (m : Mesh) → get_elem? (meshes kids) mesh ≡ some m → 0 < m.vertex_count →
      box_call s mesh ≡ box_answer (bounding_box_of m.vertex_count m.vertices) (centre_of (bounding_box_of m.vertex_count m.vertices))

-- ---- the demand

pub record Demand2 : Type 1 where
  -- accepted exactly when the rules are met, and then with the counts of the layout
  pub accepted : (s : List ℕ) → Bytes s → (counts : Counts) →
      (check_call s ≡ Ok counts) ↔ ((kids : Run) × Meets s kids × (counts ≡ counts_of kids))
  -- the list, the tables, the parts and all meshes likewise, given room
  pub listed : {A : Type 0} (e : Encoding Record A) (s : List ℕ) → Bytes s → (row : List A) (counts : Counts) →
      ((list_call e s row).answer ≡ Ok counts) ↔
      ((kids : Run) × Meets s kids × (counts ≡ counts_of kids) × RoomFor e (record_count (figure kids)) row)
  pub tabled : {A B C : Type 0} (t : Tables A B C) (s : List ℕ) → Bytes s → (mesh : ℕ) (rows : Rows A B C) (sizes : Sizes) →
      ((tables_call t s mesh rows).answer ≡ Ok sizes) ↔
      ((kids : Run) × Meets s kids × ((m : Mesh) × (get_elem? (meshes kids) mesh ≡ some m) × (sizes ≡ sizes_of m) × RoomForTables t rows m))
  pub parts-listed : {A : Type 0} (e : Encoding Part A) (s : List ℕ) → Bytes s → (row : List A) (n : ℕ) →
      ((parts_call e s row).answer ≡ Ok n) ↔ ((kids : Run) × Meets s kids × (n ≡ length (parts kids)) × RoomFor e (length (parts kids)) row)
  pub meshes-listed : {A : Type 0} (e : Encoding Standing A) (s : List ℕ) → Bytes s → (row : List A) (n : ℕ) →
      ((meshes_call e s row).answer ≡ Ok n) ↔ ((kids : Run) × Meets s kids × (n ≡ length (standing kids)) × RoomFor e (length (standing kids)) row)
  -- and what they give is that of the layout
  pub given : (s : List ℕ) (kids : Run) → Meets s kids → Given s kids
  -- a figure we write is accepted and reads back, bare or with many objects and materials
  pub written-reads-back : WrittenReadsBack
  pub figure-reads-back : FlatReadsBack
