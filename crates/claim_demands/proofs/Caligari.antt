-- Demands 2 and 3 of Caligari files, of the calls: from "accepted exactly", and from the rules' demand 3.
use Rattle.std.specs.Prelude.{Ok, Err}
use mathlib.Core.List.{List}
use Prim.Native.Nat.{ℕ}
use lib.ListN.{length, get_elem?}
use mathlib.Core.Path.{◌≡◌}
use native.Mathlib.Omega.{arith}
use lib.Dec.{leb}
use borrow.Author.Tests.{leb-true, le-leb, lt-leb}
use mathlib.Core.Bool.{cond}
use Rattle.shared_words.specs.declared.Refusal.{Refusal}
use Rattle.shared_words.specs.declared.Refusal.TheVariants.{NoRoom}
use Rattle.shared_words.specs.Conditions.{accepted}
use Rattle.shared_words.specs.Effects.{leaving, filled}
use Rattle.shared_flat.specs.Put.{Mark, without, with, pieces, Moved}
use Rattle.cob_rules.specs.Layout.{Chunk, Layout, size, bytes}
use Rattle.cob_rules.specs.Rules.{Meets}
use Rattle.cob_rules.specs.Walk.{verdict}
use Rattle.cob_rules.specs.Gives.{list, meshes, Mesh}
use Rattle.cob_rules.specs.Calls.{check_of, check_call, give, list_of, list_call, of_mesh, sizes_of, sizes_call, tables_of, tables_call}
use Rattle.cob_rules.specs.PutIn.{ending, SameRecord, Unchanged}
use Rattle.cob_rules.proofs.Verdict.{accepted_exactly, verdict-good}
use Rattle.cob_rules.proofs.PutIn.{put_in_lem, taken_out}
use Rattle.claim_demands.specs.Caligari.{Given, Demand2, SameAnswers, Demand3}
use Rattle.claim_demands.proofs.Found.{layout-found, mesh-found, room-found}
use Rattle.claim_demands.proofs.Related.{equally_long}
use Rattle.claim_demands.proofs.Refused.{never-ok, same_ok}

-- ---- demand 2

given : (s : List ℕ) (l : Layout) → Meets s l → Given s l
unfolding list_call sizes_call tables_call
given s l h =
    let v = verdict-good s l h in
    record {
      list-is = λ e row r. rw (v, le-leb _ _ r);
      sizes_are = λ e mesh m g row r. rw (v, g, le-leb _ _ r);
      tables_are = λ e mesh m g rows r q. rw (v, g, le-leb _ _ r, le-leb _ _ q);
    }

pub demand2 : Demand2
unfolding check_call list_call sizes_call tables_call
demand2 = record {
  accepted = λ s n. (
    λ h.
        let l = layout-found check_of (never-ok n) (verdict s) h in
        (l.0, (accepted_exactly s l.0).0 l.1, same_ok l.2),
    λ l. rw (verdict-good s l.0 l.1, l.2),
  );
  listed = λ e s row n. (
    λ h.
        let l = layout-found (λ a. (list_of e row a).answer) (never-ok n) (verdict s) h in
        let r = room-found (leb (length (list l.0)) (e.room (length row))) _ _ (never-ok n _) l.2 in
        let k = same_ok r.1 in
        (l.0, (accepted_exactly s l.0).0 l.1, k, rw k (leb-true _ _ r.0)),
    λ l. rw ((given s l.0 l.1).list-is e row (rw l.2 at l.3), l.2),
  );
  sized = λ e s mesh row n. (
    λ h.
        let l = layout-found (λ a. (of_mesh (λ r. leaving (Err r) row) (λ m. give e (sizes_of m) row) mesh a).answer) (never-ok n) (verdict s) h in
        let m = mesh-found (λ r. leaving (Err r) row) (λ (m : Mesh). give e (sizes_of m) row) (length (meshes l.0)) (never-ok n) (get_elem? (meshes l.0) mesh) l.2 in
        let k = length (sizes_of m.0) in
        let r = room-found (leb k (e.room (length row))) (leaving (Ok k) (filled (e.encode (sizes_of m.0)) row)) (leaving (Err (NoRoom k)) row) (never-ok n (NoRoom k)) m.2 in
        (l.0, (accepted_exactly s l.0).0 l.1, (m.0, m.1, same_ok r.1, leb-true _ _ r.0)),
    λ l. let m = l.2 in rw ((given s l.0 l.1).sizes_are e mesh m.0 m.1 row m.3, m.2),
  );
  tabled = λ e s mesh rows n. (
    λ h.
        let l = layout-found (λ a. (of_mesh (λ r. leaving (Err r) rows) (tables_of e rows) mesh a).answer) (never-ok n) (verdict s) h in
        let m = mesh-found (λ r. leaving (Err r) rows) (tables_of e rows) (length (meshes l.0)) (never-ok n) (get_elem? (meshes l.0) mesh) l.2 in
        let full = leaving (Ok m.0.vertex_count) record { vertices = filled (e.encode m.0.vertices) rows.vertices; corners = filled (e.encode m.0.corners) rows.corners } in
        let few = leaving (Err (NoRoom (length m.0.corners))) rows in
        let fitting = cond (leb (length m.0.corners) (e.room (length rows.corners))) full few in
        let v = room-found (leb (length m.0.vertices) (e.room (length rows.vertices))) fitting (leaving (Err (NoRoom (length m.0.vertices))) rows) (never-ok n _) m.2 in
        let c = room-found (leb (length m.0.corners) (e.room (length rows.corners))) full few (never-ok n _) v.1 in
        (l.0, (accepted_exactly s l.0).0 l.1, (m.0, m.1, same_ok c.1, (leb-true _ _ v.0, leb-true _ _ c.0))),
    λ l. let m = l.2 in rw ((given s l.0 l.1).tables_are e mesh m.0 m.1 rows m.3.0 m.3.1, m.2),
  );
  given = given;
}

-- ---- demand 3

same-answers : (m : List (Mark Chunk)) (last : Chunk) (s s' : List ℕ) → verdict s ≡ accepted (ending last (without m)) →
    verdict s' ≡ accepted (ending last (with m)) → Unchanged m last → SameAnswers (pieces size 32 m) s s'
unfolding check_call list_call sizes_call tables_call
same-answers m last s s' v v' u =
    let old = list (ending last (without m)) in
    let new = list (ending last (with m)) in
    let n : length new ≡ length old = equally_long (Moved (λ r. r.offset) SameRecord (pieces size 32 m)) old new u.list-moved in
    record {
      records = old;
      records' = new;
      moved = u.list-moved;
      accepted = rw v;
      accepted' = rw (v', n);
      list-given = λ e row h. (rw (v, le-leb _ _ h), rw (v', n, le-leb _ _ h));
      list-refused = λ e row h. (rw (v, lt-leb _ _ h), rw (v', n, lt-leb _ _ h));
      sizes-same = λ e mesh row. rw (v, v', u.meshes-same);
      tables-same = λ e mesh rows. rw (v, v', u.meshes-same);
    }

pub demand3 : Demand3
demand3 = record {
  put_in_lem = λ m last s h may n.
      let v = verdict-good s (ending last (without m)) h in
      let d = put_in_lem m last s v may n in
      same-answers m last s (bytes (ending last (with m))) v d.0 d.1;
  taken_out = λ m last s' h may.
      let v = verdict-good s' (ending last (with m)) h in
      let d = taken_out m last s' v may in
      same-answers m last (bytes (ending last (without m))) s' d.0 v d.1;
}
