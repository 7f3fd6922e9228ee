-- What each call answers and leaves in the lent rows, for every file and every row. The contracts of the public functions are
-- equations with these definitions.
use Rattle.std.specs.Prelude.{ℕ, ◌/◌, cond, List, [], ◌∷◌, leb, length, Result, Ok, Err}
use Rattle.std.proofs.Math.ListN.{get_elem?}
use Rattle.shared_words.specs.declared.Refusal.{Refusal}
use Rattle.shared_words.specs.declared.Refusal.TheVariants.{NoRoom}
use Rattle.shared_words.specs.Bytes.{packed}
use Rattle.shared_words.specs.Conditions.{refused, accepted}
use Rattle.shared_words.specs.Effects.{Effect, leaving, filled}
use Rattle.shared_words.specs.Encodings.{Encoding}
use Rattle.shared_words.specs.Picked.{pick_mesh}
use Rattle.cob_rules.specs.declared.Record.{Record}
use Rattle.cob_rules.specs.Walk.{Verdict, verdict}
use Rattle.cob_rules.specs.Gives.{list, Mesh, meshes}

-- ---- the check

abbrev pub check_of : Verdict → Result ℕ Refusal
check_of (refused r) = Err r
check_of (accepted l) = Ok (length (list l))

unfoldable pub check_call : List ℕ → Result ℕ Refusal
check_call s = check_of (verdict s)

-- ---- things into a row whose room is counted in whole things

abbrev pub give : {X : Type 0} → Encoding X ℕ → List X → List ℕ → Effect (Result ℕ Refusal) (List ℕ)
give e xs row =
    cond (leb (length xs) (e.room (length row)))
    (leaving (Ok (length xs)) (filled (e.encode xs) row))
    (leaving (Err (NoRoom (length xs))) row)

-- ---- the list

-- six numbers a record, four bytes a number
abbrev pub flat : List Record → List ℕ
flat [] = []
flat (r ∷ rs) = r.kind ∷ r.offset ∷ r.len ∷ r.identifier ∷ r.parent ∷ r.owner ∷ flat rs

abbrev pub record_bytes : Encoding Record ℕ
record_bytes = record { room = λ n. n / 24; encode = λ rs. packed 4 (flat rs) }

abbrev pub list_of : Encoding Record ℕ → List ℕ → Verdict → Effect (Result ℕ Refusal) (List ℕ)
list_of e row (refused r) = leaving (Err r) row
list_of e row (accepted l) = give e (list l) row

unfoldable pub list_call : Encoding Record ℕ → List ℕ → List ℕ → Effect (Result ℕ Refusal) (List ℕ)
list_call e s row = list_of e row (verdict s)

-- ---- one mesh

abbrev pub of_mesh : {A : Type 0} → (Refusal → A) → (Mesh → A) → ℕ → Verdict → A
of_mesh refuse use-it mesh (refused r) = refuse r
of_mesh refuse use-it mesh (accepted l) = pick_mesh refuse use-it (length (meshes l)) (get_elem? (meshes l) mesh)

-- its sizes: vertices, and faces with three corners and no holes
abbrev pub sizes_of : Mesh → List ℕ
sizes_of m = m.vertex_count ∷ m.face_count ∷ []

unfoldable pub sizes_call : Encoding ℕ ℕ → List ℕ → ℕ → List ℕ → Effect (Result ℕ Refusal) (List ℕ)
sizes_call e s mesh row = of_mesh (λ r. leaving (Err r) row) (λ m. give e (sizes_of m) row) mesh (verdict s)

-- its tables: a row of vertices and a row of corners, three numbers to a vertex and three to a face
pub record Rows : Type 0 where
  pub vertices : List ℕ
  pub corners : List ℕ

abbrev pub tables_of : Encoding ℕ ℕ → Rows → Mesh → Effect (Result ℕ Refusal) Rows
tables_of e rows m =
    cond (leb (length m.vertices) (e.room (length rows.vertices)))
    (cond (leb (length m.corners) (e.room (length rows.corners)))
    (leaving (Ok m.vertex_count)
    record { vertices = filled (e.encode m.vertices) rows.vertices; corners = filled (e.encode m.corners) rows.corners })
    (leaving (Err (NoRoom (length m.corners))) rows))
    (leaving (Err (NoRoom (length m.vertices))) rows)

unfoldable pub tables_call : Encoding ℕ ℕ → List ℕ → ℕ → Rows → Effect (Result ℕ Refusal) Rows
tables_call e s mesh rows = of_mesh (λ r. leaving (Err r) rows) (tables_of e rows) mesh (verdict s)
