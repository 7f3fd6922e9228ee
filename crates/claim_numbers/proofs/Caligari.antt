-- What C is told of Caligari figures.
use Rattle.shared_words.specs.declared.Refusal.{Refusal}
use Rattle.std.specs.Prelude.{Result, Err}
use mathlib.Core.List.{List}
use mathlib.Core.Option.{Option, none, some}
use Prim.Native.Nat.{ℕ, ◌≤◌}
use native.Mathlib.Omega.{arith}
use lib.Dec.{leb}
use lib.ListN.{length, get_elem?}
use Rattle.shared_words.specs.declared.Refusal.TheVariants.{NoRoom, NoSuchMesh}
use Rattle.shared_words.specs.Conditions.{refused, accepted}
use Rattle.shared_words.specs.Effects.{Effect, leaving}
use Rattle.shared_words.specs.Encodings.{Encoding}
use Rattle.shared_words.specs.Refusals.{limit}
use Rattle.shared_words.specs.Picked.{pick_mesh}
use Rattle.shared_words.proofs.Bools.{by_test}
use Rattle.cob_rules.specs.declared.Record.{Record}
use Rattle.cob_rules.specs.Walk.{Verdict, verdict}
use Rattle.cob_rules.specs.Gives.{list, Mesh, meshes}
use Rattle.cob_rules.specs.Calls.{check_of, check_call, give, list_of, list_call, of_mesh, sizes_of, sizes_call, Rows, tables_of, tables_call}
use Rattle.cob_meshes_rules.specs.Standing.{Standing, standing}
use Rattle.cob_meshes_rules.specs.Calls.{meshes_of, meshes_call}
use Rattle.cob_meshes_rules.proofs.Same.{as_many}
use Rattle.c_codes.specs.Codes.{count_or}
use Rattle.claim_numbers.specs.Caligari.{CountTold, CaligariTold}
use Rattle.claim_numbers.proofs.Tells.{tells}
use Rattle.claim_numbers.proofs.Conditions.{AnswerTo, and-accepted}
use Rattle.claim_numbers.proofs.Picked.{Holds, picked}
use Rattle.claim_numbers.proofs.CaligariPlaces.{verdict_to}
use Rattle.claim_numbers.proofs.CaligariMeshes.{Small}
use Rattle.claim_numbers.proofs.CaligariCounts.{Few, few}

within : (s : List ℕ) → AnswerTo limit Few (verdict s)
within s = and-accepted Few limit (verdict s) (verdict_to s) (few s)

-- ---- the calls

abbrev Told : {R : Type 0} → Effect (Result ℕ Refusal) R → Type 0
Told x = CountTold x.answer (count_or x.answer)

check_told : (v : Verdict) → AnswerTo limit Few v → CountTold (check_of v) (count_or (check_of v))
check_told (refused r) h = tells r h
check_told (accepted l) h = omega (arith, h.records-few)

give-told : {X : Type 0} (e : Encoding X ℕ) (xs : List X) (row : List ℕ) → length xs ≤ limit → Told (give e xs row)
give-told e xs row l = by_test (λ (x : Effect (Result ℕ Refusal) (List ℕ)). Told x) (leb (length xs) (e.room (length row))) (omega arith) (tells (NoRoom (length xs)) l)

tables-told : (e : Encoding ℕ ℕ) (rows : Rows) (m : Mesh) → Small limit m → Told (tables_of e rows m)
tables-told e rows m h =
    let T : Effect (Result ℕ Refusal) Rows → Type 0 = λ x. Told x in
    by_test T (leb (length m.vertices) (e.room (length rows.vertices)))
    (by_test T (leb (length m.corners) (e.room (length rows.corners))) (omega (arith, h.count)) (tells (NoRoom (length m.corners)) h.corners))
    (tells (NoRoom (length m.vertices)) h.vertices)

list-told : (e : Encoding Record ℕ) (row : List ℕ) (v : Verdict) → AnswerTo limit Few v → Told (list_of e row v)
list-told e row (refused r) h = tells r h
list-told e row (accepted l) h = give-told e (list l) row h.records-few

all_told : (e : Encoding Standing ℕ) (row : List ℕ) (v : Verdict) → AnswerTo limit Few v → Told (meshes_of e row v)
all_told e row (refused r) h = tells r h
all_told e row (accepted l) h = give-told e (standing l) row (omega (arith, h.meshes-few, as_many l))

-- the mesh that is asked for, or its number refused
mesh-told : {R : Type 0} (rows : R) (use-it : Mesh → Effect (Result ℕ Refusal) R) → ((m : Mesh) → Small limit m → Told (use-it m)) → (mesh : ℕ) (v : Verdict) → AnswerTo limit Few v →
    Told (of_mesh (λ r. leaving (Err r) rows) use-it mesh v)
mesh-told rows use-it f mesh (refused r) h = tells r h
mesh-told rows use-it f mesh (accepted l) h = go (get_elem? (meshes l) mesh) (picked (Small limit) (meshes l) mesh h.meshes_small)
  where
    go : (o : Option Mesh) → Holds (Small limit) o → Told (pick_mesh (λ r. leaving (Err r) rows) use-it (length (meshes l)) o)
    go none k = tells (NoSuchMesh (length (meshes l))) h.meshes-few
    go (some m) k = f m k

pub caligari-told : CaligariTold
unfolding check_call list_call sizes_call tables_call meshes_call
caligari-told = record {
  check = λ s. check_told (verdict s) (within s);
  list = λ e s row. list-told e row (verdict s) (within s);
  sizes = λ e s mesh row. mesh-told row (λ m. give e (sizes_of m) row) (λ m h. give-told e (sizes_of m) row (omega arith)) mesh (verdict s) (within s);
  tables = λ e s mesh rows. mesh-told rows (tables_of e rows) (tables-told e rows) mesh (verdict s) (within s);
  meshes = λ e s row. all_told e row (verdict s) (within s);
}
