-- What C is told of 3D Studio figures: the bounds on what is accepted make an answer proper, and those on places let a refusal be
-- read off.
use Rattle.studio_rules.specs.declared.Span.{Span}
use Rattle.studio_rules.specs.declared.Sizes.{Sizes}
use Rattle.studio_rules.specs.declared.Counts.{Counts}
use Rattle.std.specs.Prelude.{Result, Ok, Err}
use mathlib.Core.Path.{◌≡◌, refl, sym, subst}
use mathlib.Core.Bool.{Bool, true, false, cond}
use mathlib.Core.Logic.{inl, inr}
use mathlib.Core.List.{List, [], ◌∷◌, ◌++◌}
use mathlib.Core.Option.{Option, none, some}
use Prim.Native.Nat.{ℕ, ◌/◌, ◌≤◌}
use native.Mathlib.Omega.{arith}
use lib.Dec.{eqb, leb}
use lib.Ieee.{Float}
use lib.ListN.{length, get_elem?}
use borrow.Author.Tests.{leb-true, leb-false}
use Rattle.shared_words.specs.declared.Refusal.{Refusal}
use Rattle.shared_words.specs.declared.Refusal.TheVariants.{NoRoom, NoSuchMesh, Empty}
use Rattle.shared_words.specs.Refusals.{limit, place_of}
use Rattle.shared_words.specs.Bytes.{Bytes, packed}
use Rattle.shared_words.specs.Conditions.{Answer, refused, accepted, broken}
use Rattle.shared_words.specs.Effects.{Effect, leaving, filled}
use Rattle.shared_words.specs.Encodings.{Encoding}
use Rattle.shared_words.specs.Picked.{pick_mesh}
use Rattle.shared_words.proofs.Conditions.{met}
use Rattle.studio_rules.specs.declared.Record.{Record}
use Rattle.studio_rules.specs.declared.Boxed.{Boxed}
use Rattle.studio_rules.specs.Layout.{Run, figure, size, bytes}
use Rattle.studio_figure_rules.specs.Built.{layout}
use Rattle.studio_write_bytes.specs.Bare.{bare_bytes}
use Rattle.studio_rules.specs.Walk.{verdict}
use Rattle.studio_rules.specs.Gives.{record_count, headers, owned, skipped, Mesh, meshes, parts}
use Rattle.studio_rules.specs.Box.{bounding_box_of, centre_of}
use Rattle.studio_rules.specs.Calls.{check_of, check_call, list_of, list_call, of_mesh, Rows, Tables, fits, sizes_of, tables_of, tables_call, name_of, name_call, around_of, box_call, all_of}
use Rattle.studio_counted.proofs.All.{all-parts}
use Rattle.studio_meshes_rules.specs.Standing.{standing}
use Rattle.studio_meshes_rules.specs.Calls.{meshes_call}
use Rattle.studio_meshes_rules.specs.Boxes.{nine, boxes_call}
use Rattle.studio_meshes_rules.proofs.Few.{standing-few}
use Rattle.studio_rules.proofs.Verdict.{accepted_exactly}
use Rattle.studio_write_judge.specs.Judged.{figure_size, write_conditions, answer_of, judged}
use Rattle.studio_figure_rules.specs.Judged.{size_of, conditions}
use Rattle.studio_figure_rules.specs.Described.{Flat, fit_conditions, described, judged_flat, write_flat}
use Rattle.studio_figure_rules.proofs.Ready.{met_append, each}
use Rattle.studio_write.specs.Write.{writing, write_call}
use Rattle.c_codes.specs.Codes.{refusal_code, records_or, sizes_or, numbers_or, count_or}
use Rattle.c_answers.specs.Given.{untouched, given, counts_given, name_given, box_given}
use Rattle.studio_rescue_rules.specs.declared.Mended.{Mended}
use Rattle.studio_rescue_rules.specs.Rescue.{Cut, Rescued, beyond, saved, rescue}
use Rattle.studio_rescue_rules.specs.Call.{Lent, call_of, rescue_call}
use Rattle.c_rescue.specs.Codes.{cuts_or}
use Rattle.claim_numbers.specs.Tells.{Proper}
use Rattle.claim_numbers.specs.Studio.{CheckTold, TablesTold, CountedTold, RescueTold, WriteTold, GivenOn, CountsTold, NameTold, BoxTold, StudioTold}
use Rattle.claim_numbers.proofs.Tells.{capped, tells}
use Rattle.claim_numbers.proofs.Picked.{picked}
use Rattle.claim_numbers.proofs.StudioPlaces.{Within, verdict-within}
use Rattle.claim_numbers.proofs.StudioParts.{parts-few}
use Rattle.claim_numbers.proofs.StudioRescues.{RescueWithin, rescue-within}
use Rattle.claim_numbers.proofs.StudioMeshes.{meshes-few, Small, meshes_small}
use Rattle.shared_words.proofs.Bools.{by_test}
use Rattle.studio_rules.proofs.SixEach.{count_small}

-- ---- the check and the list

records-told : (a : Answer Run) → Within a → CheckTold (check_of a) (records_or (check_of a))
records-told (refused r) h = tells r h
records-told (accepted kids) h = omega (arith, count_small (figure kids))

list-told : {A : Type 0} (e : Encoding Record A) (row : List A) (a : Answer Run) → Within a →
    CheckTold (list_of e row a).answer (records_or (list_of e row a).answer)
list-told e row (refused r) h = tells r h
list-told {A} e row (accepted kids) h =
    by_test (λ (x : Effect (Result Counts Refusal) (List A)). CheckTold x.answer (records_or x.answer)) (leb (record_count (figure kids)) (e.room (length row)))
    (omega (arith, count_small (figure kids))) (tells (NoRoom (record_count (figure kids))) (omega (arith, count_small (figure kids))))

-- ---- all parts, all meshes, and all boxes

all_told : {X A : Type 0} (things : Run → List X) (e : Encoding X A) (row : List A) → ((kids : Run) → length (things kids) ≤ size (figure kids)) → (a : Answer Run) → Within a →
    CountedTold (all_of things e row a).answer (count_or (all_of things e row a).answer)
all_told things e row few (refused r) h = tells r h
all_told {X} {A} things e row few (accepted kids) h =
    by_test (λ (x : Effect (Result ℕ Refusal) (List A)). CountedTold x.answer (count_or x.answer)) (leb (length (things kids)) (e.room (length row)))
    (omega (arith, few kids)) (tells (NoRoom (length (things kids))) (omega (arith, few kids)))

-- ---- the rescue

rescue-told : {A : Type 0} (e : Encoding Cut A) (rows : Lent A) (x : Rescued) → RescueWithin x → RescueTold (call_of e rows x).answer (cuts_or (call_of e rows x).answer)
rescue-told e rows (beyond r) h = tells r h
rescue-told {A} e rows (saved s cuts) h =
    let T : Effect (Result Mended Refusal) (Lent A) → Type 0 = λ x. RescueTold x.answer (cuts_or x.answer) in
    by_test T (leb (length cuts) (e.room (length rows.cuts))) (by_test T (leb (length s) (length rows.out)) (omega (arith, h.0)) (tells (NoRoom (length s)) h.1)) (tells (NoRoom (length cuts)) h.0)

-- ---- one mesh

-- the mesh that is asked for, or its number refused
mesh-told : {A : Type 0} (P : A → Type 0) (refuse : Refusal → A) (use-it : Mesh → A) → ((r : Refusal) → place_of r ≤ limit → P (refuse r)) →
    (mesh : ℕ) (a : Answer Run) → Within a →
    ((kids : Run) → a ≡ accepted kids → (m : Mesh) → get_elem? (meshes kids) mesh ≡ some m → P (use-it m)) → P (of_mesh refuse use-it mesh a)
mesh-told P refuse use-it of-refusal mesh (refused r) h of-mesh = of-refusal r h
mesh-told P refuse use-it of-refusal mesh (accepted kids) h of-mesh = go (get_elem? (meshes kids) mesh) refl
  where
    go : (x : Option Mesh) → get_elem? (meshes kids) mesh ≡ x → P (pick_mesh refuse use-it (length (meshes kids)) x)
    go none e = of-refusal (NoSuchMesh (length (meshes kids))) (omega (arith, meshes-few kids))
    go (some m) e = of-mesh kids refl m e

small_mesh : (s : List ℕ) → Bytes s → (mesh : ℕ) (kids : Run) → verdict s ≡ accepted kids → (m : Mesh) → get_elem? (meshes kids) mesh ≡ some m → Small m
small_mesh s b mesh kids v m e =
    let w = (accepted_exactly s b kids).0 v in
    let all = picked Small (meshes kids) mesh (meshes_small 0 0 0 (figure kids) (subst Bytes (sym w.is) b)) in
    rw e at all

-- the tables, by a number that is proper where they are filled
tables-told : {A B C : Type 0} (t : Tables A B C) (rows : Rows A B C) (code : Result Sizes Refusal → ℕ) → ((r : Refusal) → code (Err r) ≡ refusal_code r) → (m : Mesh) → Small m → Proper (code (Ok (sizes_of m))) →
    TablesTold (tables_of t rows m).answer (code (tables_of t rows m).answer)
tables-told {A} {B} {C} t rows code same m h proper =
    let v = h.vertex-numbers in
    let c = h.corner-numbers in
    let p = h.mapping_numbers_lem in
    let T : Effect (Result Sizes Refusal) (Rows A B C) → Type 0 = λ x. TablesTold x.answer (code x.answer) in
    by_test T (fits t.vertices m.vertices rows.vertices)
    (by_test T (fits t.corners m.corners rows.corners)
    (by_test T (fits t.mapping m.mapping rows.mapping)
    proper (rw (same (NoRoom (length m.mapping))) (tells (NoRoom (length m.mapping)) (omega arith))))
    (rw (same (NoRoom (length m.corners))) (tells (NoRoom (length m.corners)) (omega arith))))
    (rw (same (NoRoom (length m.vertices))) (tells (NoRoom (length m.vertices)) (omega arith)))

-- ---- a few numbers given out

few-told : (out ns : List ℕ) → length ns ≤ 9 → GivenOn out ns (given out ns)
few-told out ns h = go (leb (length ns) (length out / 4)) refl
  where
    go : (x : Bool) → leb (length ns) (length out / 4) ≡ x → GivenOn out ns (cond x (leaving (length ns) (filled (packed 4 ns) out)) (untouched out (NoRoom (length ns))))
    go true e = inl (leb-true _ _ e, refl)
    go false e = inr (leb-false _ _ e, (tells (NoRoom (length ns)) (omega arith), refl))

counts-told : (out : List ℕ) (a : Answer Run) → Within a → CountsTold out (check_of a) (counts_given out (check_of a))
counts-told out (refused r) h = (tells r h, refl)
counts-told out (accepted kids) h =
    few-told out (headers (figure kids) ∷ owned (figure kids) ∷ skipped (figure kids) ∷ []) (omega arith)

box-told : (out : List ℕ) (m : Mesh) → BoxTold out (around_of m) (box_given out (around_of m))
box-told out m =
    let b = bounding_box_of m.vertex_count m.vertices in
    by_test (λ (x : Result Boxed Refusal). BoxTold out x (box_given out x)) (eqb m.vertex_count 0) (tells Empty (omega arith), refl)
    (few-told out (nine b (centre_of b)) (omega arith))

-- ---- the writer

write-told : (name : List ℕ) (vertices : List Float) (corners out file : List ℕ) →
    WriteTold (writing file out (judged name vertices corners (length out))).answer (count_or (writing file out (judged name vertices corners (length out))).answer)
unfolding judged
write-told name vertices corners out file = go (broken (write_conditions name vertices corners (length out))) refl
  where
    go : (r : Option Refusal) → broken (write_conditions name vertices corners (length out)) ≡ r →
        WriteTold (writing file out (answer_of (figure_size name vertices corners) r)).answer (count_or (writing file out (answer_of (figure_size name vertices corners) r)).answer)
    go (some r) e = capped r
    go none e =
        let t = met _ e in
        let l : figure_size name vertices corners ≤ limit = leb-true _ _ t.1.1.1.1.1.1.0 in
        omega arith

-- what the writer of figures with materials writes is within the limit too
figure-told : (r : Flat) (out file : List ℕ) → WriteTold (writing file out (judged_flat r (length out))).answer (count_or (writing file out (judged_flat r (length out))).answer)
unfolding judged_flat
figure-told r out file = go (broken (fit_conditions r ++ conditions (described r) (length out))) refl
  where
    go : (x : Option Refusal) → broken (fit_conditions r ++ conditions (described r) (length out)) ≡ x → WriteTold (writing file out (answer_of (size_of (described r)) x)).answer (count_or (writing file out (answer_of (size_of (described r)) x)).answer)
    go (some x) e = capped x
    go none e =
        let l = (each (described r) (length out) (met_append (fit_conditions r) (conditions (described r) (length out)) (met (fit_conditions r ++ conditions (described r) (length out)) e)).1).within-limit in
        omega arith

-- ---- THE THEOREM

pub studio_told : StudioTold
unfolding check_call list_call tables_call name_call box_call meshes_call boxes_call rescue_call write_call write_flat
studio_told = record {
  check = λ s. records-told (verdict s) (verdict-within s);
  list = λ e s row. list-told e row (verdict s) (verdict-within s);
  tables = λ {A} {B} {C} t s b mesh rows.
      mesh-told (λ (x : Effect (Result Sizes Refusal) (Rows A B C)). TablesTold x.answer (sizes_or x.answer)) (λ r. leaving (Err r) rows) (tables_of t rows) tells mesh (verdict s) (verdict-within s)
      (λ kids v m g. let h = small_mesh s b mesh kids v m g in tables-told t rows sizes_or (λ r. refl) m h (omega (arith, h.vertices, h.faces)));
  mapping = λ {A} {B} {C} t s b mesh rows.
      mesh-told (λ (x : Effect (Result Sizes Refusal) (Rows A B C)). TablesTold x.answer (numbers_or x.answer)) (λ r. leaving (Err r) rows) (tables_of t rows) tells mesh (verdict s) (verdict-within s)
      (λ kids v m g. let h = small_mesh s b mesh kids v m g in tables-told t rows numbers_or (λ r. refl) m h (omega (arith, h.pairs)));
  counts = λ s out. counts-told out (verdict s) (verdict-within s);
  name = λ s mesh out.
      mesh-told (λ (x : Result Span Refusal). NameTold out x (name_given out x)) Err name_of (λ r h. (tells r h, refl)) mesh (verdict s) (verdict-within s)
      (λ kids v m g. few-told out (m.name_at ∷ m.name_length ∷ []) (omega arith));
  box = λ s mesh out.
      mesh-told (λ (x : Result Boxed Refusal). BoxTold out x (box_given out x)) Err around_of (λ r h. (tells r h, refl)) mesh (verdict s) (verdict-within s)
      (λ kids v m g. box-told out m);
  parts = λ {A} e s row.
      subst (λ (x : Effect (Result ℕ Refusal) (List A)). CountedTold x.answer (count_or x.answer)) (sym (all-parts e s row)) (all_told parts e row (λ kids. omega (arith, parts-few kids, count_small (figure kids))) (verdict s) (verdict-within s));
  meshes = λ e s row. all_told standing e row (λ kids. standing-few 0 0 0 (figure kids)) (verdict s) (verdict-within s);
  boxes = λ e s row. all_told meshes e row meshes-few (verdict s) (verdict-within s);
  rescue = λ e s b rows. rescue-told e rows (rescue s) (rescue-within s b);
  write = λ name vertices corners out. write-told name vertices corners out (bare_bytes name vertices corners);
  figure = λ rows out. figure-told rows out (bytes (figure (layout (described rows))));
}
