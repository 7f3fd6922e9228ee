-- Demand 1 of slips, Caligari and Cinema 4D files: each line of each fold of the walk's answer accepts, or refuses and gives back what
-- was lent.
use Rattle.std.specs.Prelude.{Ok, Err}
use mathlib.Core.Path.{refl}
use mathlib.Core.Bool.{◌&&◌}
use mathlib.Core.List.{List}
use mathlib.Core.Logic.{inl}
use mathlib.Core.Option.{Option, none, some}
use Prim.Native.Nat.{ℕ}
use lib.Dec.{eqb, ltb, leb}
use lib.ListN.{length, get_elem?}
use Rattle.shared_words.specs.declared.Refusal.{Refusal}
use Rattle.shared_words.specs.declared.Refusal.TheVariants.{TooLong, NoRoom, NoSuchMesh, Differs}
use Rattle.shared_words.specs.Conditions.{Answer, refused, accepted}
use Rattle.shared_words.specs.Effects.{leaving}
use Rattle.shared_words.specs.Encodings.{Encoding}
use Rattle.shared_words.specs.Picked.{pick_mesh}
use Rattle.shared_words.proofs.Bools.{by_test}
use Rattle.slip_sums.specs.declared.Sum.{Sum}
use Rattle.slip_sums.specs.Fletcher.{sum_of}
use Rattle.slip_sums.specs.Passes.{sums_call, match_of}
use Rattle.slip_rules.specs.declared.Numbers.{Numbers}
use Rattle.slip_rules.specs.Walk.{Entries}
use Rattle.slip_rules.specs.Calls.{read_of, write_of}
use Rattle.cob_rules.specs.declared.Record.{Record}
use Rattle.cob_rules.specs.Walk.{Verdict}
use Rattle.cob_rules.specs.Gives.{list, Mesh, meshes}
use Rattle.cob_rules.specs.Calls.{check_of, give, list_of, of_mesh, Rows, tables_of}
use Rattle.cob_meshes_rules.specs.Standing.{Standing, standing}
use Rattle.cob_meshes_rules.specs.Calls.{meshes_of}
use Rattle.c4d_rules.specs.Layout.{Layout}
use Rattle.c4d_rules.specs.Gives.{Object, objects}
use Rattle.c4d_rules.specs.Calls.{two_rows, check_of as c4d_check_of, list_of as c4d_list_of}
use Rattle.claim_demands.specs.Demand1.{Answered, AnsweredOn, passes}
use Rattle.claim_demands.proofs.Refused.{Apart, apart, refuses, leaves}

-- ---- slips

pub summed : (s : List ℕ) → Answered Ok Err (sums_call s)
summed s = by_test (Answered Ok Err) (ltb 1_048_576 (length s)) (refuses Ok Err apart TooLong) (inl (sum_of s, refl))

pub matched : (a : Sum) (l first second : ℕ) → Answered passes Err (match_of a l first second)
matched a l first second =
    let other : (n : ℕ) → Answered passes Err (Err (Differs n)) = λ n. refuses passes Err apart (Differs n) in
    by_test (Answered passes Err) (eqb a.len l)
    (by_test (Answered passes Err) (eqb a.first first && eqb a.second second) (inl (tt, refl)) (other 1)) (other 0)

pub slip-given : (e : Encoding Numbers ℕ) (row : List ℕ) (a : Entries) → AnsweredOn Ok Err row (read_of e row a)
slip-given e row (refused r) = leaves Ok Err apart row r
slip-given e row (accepted es) =
    by_test (AnsweredOn Ok Err row) (leb (length es) (e.room (length row)))
    (inl (length es, refl)) (leaves Ok Err apart row (NoRoom (length es)))

pub slip-written : (new out : List ℕ) (x : Option Refusal) → AnsweredOn Ok Err out (write_of new out x)
slip-written new out (some r) = leaves Ok Err apart out r
slip-written new out none = inl (length new, refl)

-- ---- Caligari files

pub cob_leaves : {R : Type 0} (lent : R) (r : Refusal) → AnsweredOn {X = ℕ} Ok Err lent (leaving (Err r) lent)
cob_leaves = leaves Ok Err apart

pub cob_checked : (a : Verdict) → Answered Ok Err (check_of a)
cob_checked (refused r) = refuses Ok Err apart r
cob_checked (accepted l) = inl (length (list l), refl)

pub cob_given : {X : Type 0} (e : Encoding X ℕ) (xs : List X) (row : List ℕ) → AnsweredOn Ok Err row (give e xs row)
cob_given e xs row =
    by_test (AnsweredOn Ok Err row) (leb (length xs) (e.room (length row)))
    (inl (length xs, refl)) (cob_leaves row (NoRoom (length xs)))

pub cob_listed : (e : Encoding Record ℕ) (row : List ℕ) (a : Verdict) → AnsweredOn Ok Err row (list_of e row a)
cob_listed e row (refused r) = cob_leaves row r
cob_listed e row (accepted l) = cob_given e (list l) row

pub cob_all : (e : Encoding Standing ℕ) (row : List ℕ) (a : Verdict) → AnsweredOn Ok Err row (meshes_of e row a)
cob_all e row (refused r) = cob_leaves row r
cob_all e row (accepted l) = cob_given e (standing l) row

pub cob_tabled : (e : Encoding ℕ ℕ) (rows : Rows) (m : Mesh) → AnsweredOn Ok Err rows (tables_of e rows m)
cob_tabled e rows m =
    let T = AnsweredOn Ok Err rows in
    by_test T (leb (length m.vertices) (e.room (length rows.vertices)))
    (by_test T (leb (length m.corners) (e.room (length rows.corners)))
    (inl (m.vertex_count, refl)) (cob_leaves rows (NoRoom (length m.corners))))
    (cob_leaves rows (NoRoom (length m.vertices)))

pub cob_by_mesh : {A : Type 0} (P : A → Type 0) (refuse : Refusal → A) (use-it : Mesh → A) →
    ((r : Refusal) → P (refuse r)) → ((m : Mesh) → P (use-it m)) → (mesh : ℕ) (a : Verdict) → P (of_mesh refuse use-it mesh a)
cob_by_mesh P refuse use-it of-refusal of-mesh mesh (refused r) = of-refusal r
cob_by_mesh P refuse use-it of-refusal of-mesh mesh (accepted l) = go (get_elem? (meshes l) mesh)
  where
    go : (x : Option Mesh) → P (pick_mesh refuse use-it (length (meshes l)) x)
    go none = of-refusal (NoSuchMesh (length (meshes l)))
    go (some m) = of-mesh m

-- ---- Cinema 4D files

pub c4d_checked : (a : Answer Layout) → Answered Ok Err (c4d_check_of a)
c4d_checked (refused r) = refuses Ok Err apart r
c4d_checked (accepted l) = inl (length (objects l), refl)

pub c4d_listed : {A B : Type 0} (e : Encoding Object A) (m : Encoding ℕ B) (os : List A) (ms : List B) (a : Answer (List Object)) →
    AnsweredOn Ok Err (two_rows os ms) (c4d_list_of e m os ms a)
c4d_listed e m os ms (refused r) = leaves Ok Err apart (two_rows os ms) r
c4d_listed e m os ms (accepted rs) = inl (length rs, refl)
