-- Demand 2, of the calls. The verdict of a file that meets the rules is its layout, so a call there is its fold's line for
-- that layout; and a fold that accepts has a layout, since its line for a refusal refuses.
use Rattle.std.specs.Prelude.{Result, Ok, Err}
use mathlib.Core.Path.{◌≡◌, sym, ap, ◌∙◌}
use mathlib.Core.List.{List}
use Prim.Native.Nat.{ℕ}
use native.Mathlib.Omega.{arith}
use lib.Dec.{leb}
use lib.ListN.{length, get_elem?}
use borrow.Author.Tests.{leb-true, le-leb, ne_eqb}
use Rattle.shared_words.specs.declared.Refusal.{Refusal}
use Rattle.studio_rules.specs.declared.Counts.{Counts}
use Rattle.studio_rules.specs.declared.Sizes.{Sizes}
use Rattle.shared_words.specs.Bytes.{Bytes}
use Rattle.studio_rules.specs.Layout.{Run, figure}
use Rattle.studio_rules.specs.Rules.{Meets}
use Rattle.shared_words.specs.Conditions.{Answer, refused, accepted}
use Rattle.studio_rules.specs.Walk.{verdict}
use Rattle.studio_rules.specs.Gives.{record_count, Mesh, meshes, parts}
use Rattle.shared_words.specs.Encodings.{Encoding}
use Rattle.shared_words.specs.Effects.{Effect, leaving}
use Rattle.studio_rules.specs.Calls.{check_of, check_call, list_of, list_call, of_mesh, Rows, Tables, fits, sizes_of, tables_of, tables_call, name_call, box_call, parts_call, all_of}
use Rattle.studio_rules.proofs.Verdict.{accepted_exactly, verdict-good}
use Rattle.studio_rules.proofs.Theorems.{counts-add}
use Rattle.studio_counted.proofs.All.{all-parts}
use Rattle.studio_meshes_rules.specs.Standing.{standing}
use Rattle.studio_meshes_rules.specs.Calls.{meshes_call}
use Rattle.studio_write.proofs.ReadsBack.{written-reads-back}
use Rattle.claim_demands.specs.Demand2.{RoomFor, RoomForTables, Given, Demand2}
use Rattle.claim_demands.proofs.Found.{layout-found, mesh-found, room-found}
use Rattle.studio_figure_rules.proofs.Described.{flat-reads-back}
use Rattle.claim_demands.proofs.Refused.{never-ok, same_ok}

-- ---- answers: no refusal is an acceptance, and an acceptance has one value

-- ---- what was found on the way to an answer

-- the file's layout
found-layout : {Z : Type 0} (fold : Answer Run → Z) {z : Z} → ((r : Refusal) → fold (refused r) ≡ z → ⊥) → (s : List ℕ) → Bytes s →
    fold (verdict s) ≡ z → (kids : Run) × Meets s kids × (fold (accepted kids) ≡ z)
found-layout fold never s b e =
    let l = layout-found fold never (verdict s) e in
    (l.0, (accepted_exactly s b l.0).0 l.1, l.2)

-- room for all tables
found-tables : {A B C : Type 0} (t : Tables A B C) (rows : Rows A B C) (m : Mesh) (sizes : Sizes) → (tables_of t rows m).answer ≡ Ok sizes →
    (sizes ≡ sizes_of m) × RoomForTables t rows m
found-tables t rows m sizes h =
    let v = room-found (fits t.vertices m.vertices rows.vertices) _ _ (never-ok sizes _) h in
    let c = room-found (fits t.corners m.corners rows.corners) _ _ (never-ok sizes _) v.1 in
    let p = room-found (fits t.mapping m.mapping rows.mapping) _ _ (never-ok sizes _) c.1 in
    (same_ok p.1, record { vertices = v.0; corners = c.0; mapping = p.0 })

-- room for all things of a kind
found_all : {X A : Type 0} (things : Run → List X) (e : Encoding X A) (row : List A) (n : ℕ) (s : List ℕ) → Bytes s → (all_of things e row (verdict s)).answer ≡ Ok n →
    (kids : Run) × Meets s kids × (n ≡ length (things kids)) × RoomFor e (length (things kids)) row
found_all things e row n s b h =
    let l = found-layout (λ a. (all_of things e row a).answer) (never-ok n) s b h in
    let r = room-found (leb (length (things l.0)) (e.room (length row))) _ _ (never-ok n _) l.2 in
    (l.0, l.1, same_ok r.1, leb-true _ _ r.0)

-- ---- what the calls give of a file that meets the rules

given : (s : List ℕ) (kids : Run) → Meets s kids → Given s kids
unfolding list_call tables_call name_call box_call parts_call meshes_call
given s kids m =
    let v = verdict-good s kids m in
    record {
      counts-add = counts-add s kids m;
      list-is = λ e row h. rw (v, le-leb (record_count (figure kids)) (e.room (length row)) h);
      tables_are = λ t mesh x g rows h. rw (v, g, h.vertices, h.corners, h.mapping);
      parts_are = λ e row h. rw (v, le-leb (length (parts kids)) (e.room (length row)) h);
      meshes_are = λ e row h. rw (v, le-leb (length (standing kids)) (e.room (length row)) h);
      name-is = λ mesh x g. rw (v, g);
      box-is = λ mesh x g p. rw (v, g, ne_eqb x.vertex_count 0 (λ z. omega arith));
    }

-- ---- the demand

pub demand2 : Demand2
unfolding check_call list_call tables_call parts_call meshes_call
demand2 = record {
  accepted = λ s b counts. (
    λ h. let l = found-layout check_of (never-ok counts) s b h in (l.0, l.1, same_ok l.2),
    λ l. rw (verdict-good s l.0 l.1, l.2),
  );
  listed = λ e s b row counts. (
    λ h.
        let l = found-layout (λ a. (list_of e row a).answer) (never-ok counts) s b h in
        let r = room-found (leb (record_count (figure l.0)) (e.room (length row))) _ _ (never-ok counts _) l.2 in
        (l.0, l.1, same_ok r.1, leb-true _ _ r.0),
    λ l. rw ((given s l.0 l.1).list-is e row l.3, l.2),
  );
  tabled = λ t s b mesh rows sizes. (
    λ h.
        let l = found-layout (λ a. (of_mesh (λ r. leaving (Err r) rows) (tables_of t rows) mesh a).answer) (never-ok sizes) s b h in
        let m = mesh-found (λ r. leaving (Err r) rows) (tables_of t rows) (length (meshes l.0)) (never-ok sizes) (get_elem? (meshes l.0) mesh) l.2 in
        let f = found-tables t rows m.0 sizes m.2 in
        (l.0, l.1, (m.0, m.1, f.0, f.1)),
    λ l.
        let m = l.2 in
        rw ((given s l.0 l.1).tables_are t mesh m.0 m.1 rows m.3, m.2),
  );
  parts-listed = λ {A} e s b row n. (
    λ h. found_all parts e row n s b (ap (λ (x : Effect (Result ℕ Refusal) (List A)). x.answer) (sym (all-parts e s row)) ∙ h),
    λ l. rw ((given s l.0 l.1).parts_are e row l.3, l.2),
  );
  meshes-listed = λ e s b row n. (
    λ h. found_all standing e row n s b h,
    λ l. rw ((given s l.0 l.1).meshes_are e row l.3, l.2),
  );
  given = given;
  written-reads-back = written-reads-back;
  figure-reads-back = flat-reads-back;
}
