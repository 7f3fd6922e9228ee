-- Demand 1, of the calls. A call is a fold of the walk's answer, and each line of each fold accepts, or refuses and gives
-- back what was lent. (Those of the other formats: Formats.)
use Rattle.std.specs.Prelude.{Result, Ok, Err}
use mathlib.Core.Path.{refl, sym, subst}
use mathlib.Core.List.{List}
use mathlib.Core.Logic.{inl}
use mathlib.Core.Option.{Option, none, some}
use Prim.Native.Nat.{ℕ}
use lib.Dec.{eqb, leb}
use lib.ListN.{length, get_elem?}
use Rattle.shared_words.specs.Picked.{pick_mesh}
use Rattle.studio_rules.specs.declared.Record.{Record}
use Rattle.shared_words.specs.declared.Refusal.{Refusal}
use Rattle.shared_words.specs.declared.Refusal.TheVariants.{NoRoom, NoSuchMesh, Empty}
use Rattle.studio_rules.specs.Layout.{Run, figure, bytes}
use Rattle.shared_words.specs.Conditions.{Answer, refused, accepted, broken}
use Rattle.studio_rules.specs.Walk.{verdict}
use Rattle.studio_rules.specs.Gives.{record_count, Mesh, meshes, parts}
use Rattle.shared_words.specs.Encodings.{Encoding}
use Rattle.shared_words.specs.Effects.{leaving}
use Rattle.studio_rules.specs.Calls.{counts_of, check_of, check_call, list_of, list_call, of_mesh, Rows, Tables, fits, sizes_of, tables_of, tables_call, name_of, name_call, around_of, box_call, all_of}
use Rattle.studio_counted.proofs.All.{all-parts}
use Rattle.studio_meshes_rules.specs.Standing.{standing}
use Rattle.studio_meshes_rules.specs.Calls.{meshes_call}
use Rattle.studio_meshes_rules.specs.Boxes.{boxes_call}
use Rattle.studio_rescue_rules.specs.Rescue.{Cut, Rescued, beyond, saved, rescue}
use Rattle.studio_rescue_rules.specs.Call.{Lent, call_of, rescue_call}
use Rattle.studio_write_judge.specs.Judged.{judged}
use Rattle.studio_figure_rules.specs.Described.{described, judged_flat, write_flat}
use Rattle.studio_figure_rules.specs.Built.{layout}
use Rattle.studio_write_bytes.specs.Bare.{bare_bytes}
use Rattle.slip_rules.specs.Slip.{bytes as slip_bytes}
use Rattle.studio_write.specs.Write.{writing, write_call}
use Rattle.slip_rules.specs.Walk.{verdict as slip_verdict}
use Rattle.slip_rules.specs.Calls.{entries_from, write_conditions, slip_read_call, slip_write_call}
use Rattle.stick_rules.specs.Records.{judge_call}
use Rattle.cob_rules.specs.Walk.{verdict as cob_verdict}
use Rattle.cob_meshes_rules.specs.Calls.{meshes_call as cob_meshes_call}
use Rattle.cob_rules.specs.Calls.{check_call as cob_check_call, give, list_call as cob_list_call, sizes_of as cob_sizes_of, sizes_call, tables_of as cob_tables_of, tables_call as cob_tables_call}
use Rattle.c4d_rules.specs.Walk.{verdict as c4d_verdict}
use Rattle.c4d_rules.specs.Calls.{objects_call, c4d_check_call, c4d_list_call}
use Rattle.claim_demands.specs.Demand1.{Answered, AnsweredOn, around, mended, good, Demand1}
use Rattle.claim_demands.proofs.Refused.{apart, refuses, leaves}
use Rattle.claim_demands.proofs.Formats.{summed, matched, slip-given, slip-written, cob_leaves, cob_checked, cob_given, cob_listed, cob_tabled, cob_all, cob_by_mesh, c4d_checked, c4d_listed}
use Rattle.shared_words.proofs.Bools.{by_test}

-- ---- what holds of each line of a fold holds of the fold

by-mesh : {A : Type 0} (P : A → Type 0) (refuse : Refusal → A) (use-it : Mesh → A) →
    ((r : Refusal) → P (refuse r)) → ((m : Mesh) → P (use-it m)) → (mesh : ℕ) (a : Answer Run) → P (of_mesh refuse use-it mesh a)
by-mesh P refuse use-it of-refusal of-mesh mesh (refused r) = of-refusal r
by-mesh P refuse use-it of-refusal of-mesh mesh (accepted kids) = go (get_elem? (meshes kids) mesh)
  where
    go : (x : Option Mesh) → P (pick_mesh refuse use-it (length (meshes kids)) x)
    go none = of-refusal (NoSuchMesh (length (meshes kids)))
    go (some m) = of-mesh m

-- ---- the folds

checked : (a : Answer Run) → Answered Ok Err (check_of a)
checked (refused r) = refuses Ok Err apart r
checked (accepted kids) = inl (counts_of kids, refl)

listed : {A : Type 0} (e : Encoding Record A) (row : List A) (a : Answer Run) → AnsweredOn Ok Err row (list_of e row a)
listed e row (refused r) = leaves Ok Err apart row r
listed e row (accepted kids) =
    by_test (AnsweredOn Ok Err row) (leb (record_count (figure kids)) (e.room (length row)))
    (inl (counts_of kids, refl)) (leaves Ok Err apart row (NoRoom (record_count (figure kids))))

tabled : {A B C : Type 0} (t : Tables A B C) (rows : Rows A B C) (m : Mesh) → AnsweredOn Ok Err rows (tables_of t rows m)
tabled t rows m =
    by_test (AnsweredOn Ok Err rows) (fits t.vertices m.vertices rows.vertices)
    (by_test (AnsweredOn Ok Err rows) (fits t.corners m.corners rows.corners)
    (by_test (AnsweredOn Ok Err rows) (fits t.mapping m.mapping rows.mapping)
    (inl (sizes_of m, refl))
    (leaves Ok Err apart rows (NoRoom (length m.mapping))))
    (leaves Ok Err apart rows (NoRoom (length m.corners))))
    (leaves Ok Err apart rows (NoRoom (length m.vertices)))

all_things : {X A : Type 0} (things : Run → List X) (e : Encoding X A) (row : List A) (a : Answer Run) → AnsweredOn Ok Err row (all_of things e row a)
all_things things e row (refused r) = leaves Ok Err apart row r
all_things things e row (accepted kids) =
    by_test (AnsweredOn Ok Err row) (leb (length (things kids)) (e.room (length row)))
    (inl (length (things kids), refl)) (leaves Ok Err apart row (NoRoom (length (things kids))))

boxed : (m : Mesh) → Answered around Err (around_of m)
boxed m = by_test (Answered around Err) (eqb m.vertex_count 0) (refuses around Err apart Empty) (inl (_, refl))

rescued : {A : Type 0} (e : Encoding Cut A) (rows : Lent A) (x : Rescued) → AnsweredOn mended Err rows (call_of e rows x)
rescued e rows (beyond r) = leaves mended Err apart rows r
rescued e rows (saved s cuts) =
    by_test (AnsweredOn mended Err rows) (leb (length cuts) (e.room (length rows.cuts)))
    (by_test (AnsweredOn mended Err rows) (leb (length s) (length rows.out))
    (inl ((length cuts, length s), refl))
    (leaves mended Err apart rows (NoRoom (length s))))
    (leaves mended Err apart rows (NoRoom (length cuts)))

written : (file out : List ℕ) (w : Result ℕ Refusal) → AnsweredOn Ok Err out (writing file out w)
written file out (Err r) = leaves Ok Err apart out r
written file out (Ok size) = inl (size, refl)

stick_judged : (j : Result Unit Refusal) → Answered good Err j
stick_judged (Ok tt) = inl (tt, refl)
stick_judged (Err r) = refuses good Err apart r

-- ---- the demand

pub demand1 : Demand1
unfolding check_call list_call tables_call name_call box_call meshes_call boxes_call rescue_call write_call write_flat slip_read_call slip_write_call cob_check_call cob_list_call sizes_call cob_tables_call cob_meshes_call c4d_check_call c4d_list_call
demand1 = record {
  check = λ s. checked (verdict s);
  list = λ e s row. listed e row (verdict s);
  tables = λ t s mesh rows.
      by-mesh (AnsweredOn Ok Err rows) (λ r. leaving (Err r) rows) (tables_of t rows)
      (leaves Ok Err apart rows) (tabled t rows) mesh (verdict s);
  parts = λ e s row. subst (AnsweredOn Ok Err row) (sym (all-parts e s row)) (all_things parts e row (verdict s));
  meshes = λ e s row. all_things standing e row (verdict s);
  boxes = λ e s row. all_things meshes e row (verdict s);
  name = λ s mesh.
      by-mesh (Answered Ok Err) Err name_of (refuses Ok Err apart) (λ m. inl (_, refl)) mesh (verdict s);
  box = λ s mesh.
      by-mesh (Answered around Err) Err around_of (refuses around Err apart) boxed mesh (verdict s);
  rescue = λ e s rows. rescued e rows (rescue s);
  write = λ name vertices corners out. written (bare_bytes name vertices corners) out (judged name vertices corners (length out));
  figure = λ rows out. written (bytes (figure (layout (described rows)))) out (judged_flat rows (length out));
  sums = summed;
  matches = matched;
  slip-read = λ e s row. slip-given e row (slip_verdict s);
  slip-write = λ names given out. slip-written (slip_bytes (entries_from names given.rows)) out (broken (write_conditions names given (length out)));
  stick_judge = λ slip names items. stick_judged (judge_call slip names items);
  cob_check = λ s. cob_checked (cob_verdict s);
  cob_list = λ e s row. cob_listed e row (cob_verdict s);
  cob_sizes = λ e s mesh row.
      cob_by_mesh (AnsweredOn Ok Err row) (λ r. leaving (Err r) row) (λ m. give e (cob_sizes_of m) row)
      (cob_leaves row) (λ m. cob_given e (cob_sizes_of m) row) mesh (cob_verdict s);
  cob_tables = λ e s mesh rows.
      cob_by_mesh (AnsweredOn Ok Err rows) (λ r. leaving (Err r) rows) (cob_tables_of e rows)
      (cob_leaves rows) (cob_tabled e rows) mesh (cob_verdict s);
  cob_meshes = λ e s row. cob_all e row (cob_verdict s);
  c4d_check = λ s. c4d_checked (c4d_verdict s);
  c4d_list = λ e m s os ms. c4d_listed e m os ms (objects_call (e.room (length os)) (m.room (length ms)) s);
}
