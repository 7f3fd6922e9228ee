-- What each call of the reader answers and leaves in the lent rows, for every file and every row. The contracts of the
-- public functions are equations with these definitions.
use Rattle.studio_rules.specs.declared.Span.{Span}
use Rattle.std.specs.Prelude.{ℕ, Bool, true, cond, List, eqb, leb, Float, length, Result, Ok, Err}
use Rattle.std.proofs.Math.Option.{Option, none, some}
use Rattle.std.proofs.Math.ListN.{get_elem?}
use Rattle.shared_words.specs.Picked.{pick_mesh}
use Rattle.studio_rules.specs.declared.Record.{Record}
use Rattle.shared_words.specs.declared.Refusal.{Refusal}
use Rattle.shared_words.specs.declared.Refusal.TheVariants.{NoRoom, Empty}
use Rattle.studio_rules.specs.declared.Counts.{Counts}
use Rattle.studio_rules.specs.declared.Sizes.{Sizes}
use Rattle.studio_rules.specs.declared.Boxed.{Boxed}
use Rattle.studio_rules.specs.declared.Corner.{Corner}
use Rattle.studio_rules.specs.declared.BoundingBox.{BoundingBox}
use Rattle.studio_rules.specs.Layout.{Run, figure}
use Rattle.shared_words.specs.Conditions.{Answer, refused, accepted}
use Rattle.studio_rules.specs.Walk.{verdict}
use Rattle.studio_rules.specs.Gives.{record_count, list, headers, owned, skipped, Mesh, meshes, Part, parts}
use Rattle.studio_rules.specs.Box.{bounding_box_of, centre_of}
use Rattle.shared_words.specs.Effects.{Effect, leaving, filled}
use Rattle.shared_words.specs.Encodings.{Encoding, plain_row, float_row, number_bytes}

-- ---- the check

abbrev pub counts_of : Run → Counts
counts_of kids = record {
  records = record_count (figure kids);
  headers = headers (figure kids);
  own = owned (figure kids);
  skipped = skipped (figure kids);
}

abbrev pub check_of : Answer Run → Result Counts Refusal
check_of (refused r) = Err r
check_of (accepted kids) = Ok (counts_of kids)

unfoldable pub check_call : List ℕ → Result Counts Refusal
check_call s = check_of (verdict s)

-- ---- the list, into a row whose room is counted in whole records

abbrev pub list_of : {A : Type 0} → Encoding Record A → List A → Answer Run → Effect (Result Counts Refusal) (List A)
list_of e row (refused r) = leaving (Err r) row
list_of e row (accepted kids) =
    cond (leb (record_count (figure kids)) (e.room (length row)))
    (leaving (Ok (counts_of kids)) (filled (e.encode (list kids)) row))
    (leaving (Err (NoRoom (record_count (figure kids)))) row)

unfoldable pub list_call : {A : Type 0} → Encoding Record A → List ℕ → List A → Effect (Result Counts Refusal) (List A)
list_call e s row = list_of e row (verdict s)

-- ---- one mesh

abbrev pub of_mesh : {A : Type 0} → (Refusal → A) → (Mesh → A) → ℕ → Answer Run → A
of_mesh refuse use-it mesh (refused r) = refuse r
of_mesh refuse use-it mesh (accepted kids) = pick_mesh refuse use-it (length (meshes kids)) (get_elem? (meshes kids) mesh)

-- the tables of a mesh, each in a row of its own: three numbers to a vertex, three to a face, two to a pair
pub record Rows (A B C : Type 0) : Type 0 where
  pub vertices : List A
  pub corners : List B
  pub mapping : List C

-- how they stand there; none is a table that is not asked for, whose row is not looked at
pub record Tables (A B C : Type 0) : Type 0 where
  pub vertices : Option (Encoding ℕ A)
  pub corners : Option (Encoding ℕ B)
  pub mapping : Option (Encoding ℕ C)

-- all three, as numbers
abbrev pub in_numbers : Tables Float ℕ Float
in_numbers = record { vertices = some float_row; corners = some plain_row; mapping = some float_row }

-- for C the vertices and corners, and the mapping by itself
abbrev pub in_bytes : Tables ℕ ℕ ℕ
in_bytes = record { vertices = some (number_bytes 4); corners = some (number_bytes 2); mapping = none }

abbrev pub mapping_in_bytes : Tables ℕ ℕ ℕ
mapping_in_bytes = record { vertices = none; corners = none; mapping = some (number_bytes 4) }

-- there is room for numbers in a row
abbrev pub fits : {A : Type 0} → Option (Encoding ℕ A) → List ℕ → List A → Bool
fits none numbers row = true
fits (some e) numbers row = leb (length numbers) (e.room (length row))

-- the row with them
abbrev pub tabled : {A : Type 0} → Option (Encoding ℕ A) → List ℕ → List A → List A
tabled none numbers row = row
tabled (some e) numbers row = filled (e.encode numbers) row

abbrev pub sizes_of : Mesh → Sizes
sizes_of m = record { vertices = m.vertex_count; faces = m.face_count; pairs = m.pair_count }

abbrev pub rows_with : {A B C : Type 0} → Tables A B C → Rows A B C → Mesh → Rows A B C
rows_with t rows m = record {
  vertices = tabled t.vertices m.vertices rows.vertices;
  corners = tabled t.corners m.corners rows.corners;
  mapping = tabled t.mapping m.mapping rows.mapping;
}

-- all are filled, or none: if several rows are too small, 15 speaks of the vertices first, of the mapping last
abbrev pub tables_of : {A B C : Type 0} → Tables A B C → Rows A B C → Mesh → Effect (Result Sizes Refusal) (Rows A B C)
tables_of t rows m =
    cond (fits t.vertices m.vertices rows.vertices)
    (cond (fits t.corners m.corners rows.corners)
    (cond (fits t.mapping m.mapping rows.mapping)
    (leaving (Ok (sizes_of m)) (rows_with t rows m))
    (leaving (Err (NoRoom (length m.mapping))) rows))
    (leaving (Err (NoRoom (length m.corners))) rows))
    (leaving (Err (NoRoom (length m.vertices))) rows)

unfoldable pub tables_call : {A B C : Type 0} → Tables A B C → List ℕ → ℕ → Rows A B C → Effect (Result Sizes Refusal) (Rows A B C)
tables_call t s mesh rows = of_mesh (λ r. leaving (Err r) rows) (tables_of t rows) mesh (verdict s)

-- the name of the mesh's object
abbrev pub name_of : Mesh → Result Span Refusal
name_of m = Ok record { offset = m.name_at; size = m.name_length }

unfoldable pub name_call : List ℕ → ℕ → Result Span Refusal
name_call s mesh = of_mesh Err name_of mesh (verdict s)

-- the box, and its centre
abbrev pub box_answer : BoundingBox → Corner → Result Boxed Refusal
box_answer box centre = Ok record { around = box; centre = centre }

abbrev pub around_of : Mesh → Result Boxed Refusal
around_of m =
    cond (eqb m.vertex_count 0) (Err Empty)
    (box_answer (bounding_box_of m.vertex_count m.vertices) (centre_of (bounding_box_of m.vertex_count m.vertices)))

unfoldable pub box_call : List ℕ → ℕ → Result Boxed Refusal
box_call s mesh = of_mesh Err around_of mesh (verdict s)

-- ---- all things of one kind that a figure has, into a row whose room is counted in whole things

abbrev pub all_of : {X A : Type 0} → (Run → List X) → Encoding X A → List A → Answer Run → Effect (Result ℕ Refusal) (List A)
all_of things e row (refused r) = leaving (Err r) row
all_of things e row (accepted kids) =
    cond (leb (length (things kids)) (e.room (length row)))
    (leaving (Ok (length (things kids))) (filled (e.encode (things kids)) row))
    (leaving (Err (NoRoom (length (things kids)))) row)

-- the parts
unfoldable pub parts_call : {A : Type 0} → Encoding Part A → List ℕ → List A → Effect (Result ℕ Refusal) (List A)
parts_call e s row = all_of parts e row (verdict s)
