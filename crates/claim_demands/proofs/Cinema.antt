-- Demands 2 and 3 of Cinema 4D files, of the calls: from "accepted exactly", and from the rules' demand 3.
use Rattle.std.specs.Prelude.{Result, Ok, Err}
use mathlib.Core.Path.{◌≡◌, refl, ap, ◌∙◌}
use mathlib.Core.List.{List, [], ◌∷◌}
use mathlib.Core.Option.{Option, none, some}
use Prim.Native.Nat.{ℕ}
use native.Mathlib.Omega.{arith}
use lib.ListN.{length}
use borrow.Author.Tests.{leb-true, le-leb, lt-leb}
use Rattle.shared_words.specs.declared.Refusal.{Refusal}
use Rattle.shared_words.specs.Conditions.{broken, Answer, accepted, unless}
use Rattle.shared_words.specs.Effects.{leaving, filled}
use Rattle.shared_words.specs.Encodings.{Encoding}
use Rattle.shared_words.proofs.Conditions.{met}
use Rattle.shared_words.specs.Lists.{Pairwise}
use Rattle.shared_flat.specs.Put.{Mark, without, with, Piece, pieces, Moved}
use Rattle.c4d_rules.specs.Layout.{Chunk, Layout, chunk_size, bytes}
use Rattle.c4d_rules.specs.Rules.{Meets}
use Rattle.c4d_rules.specs.Walk.{verdict}
use Rattle.c4d_rules.specs.Gives.{Object, objects}
use Rattle.c4d_rules.specs.Calls.{check_of, all_materials, room_conditions, objects_of, objects_call, two_rows, list_of, c4d_check_call, c4d_list_call}
use Rattle.c4d_rules.specs.PutIn.{SameObject, Unchanged}
use Rattle.c4d_rules.proofs.Verdict.{accepted_exactly, verdict-good}
use Rattle.c4d_rules.proofs.PutIn.{put_in_lem, taken_out}
use Rattle.claim_demands.specs.Cinema.{RoomForAll, Demand2, SameAnswers, Demand3}
use Rattle.claim_demands.proofs.Found.{layout-found}
use Rattle.claim_demands.proofs.Related.{equally_long}
use Rattle.claim_demands.proofs.Refused.{never-ok, same_ok}

-- ---- demand 2

-- what is given where no condition is broken
nothing-broken : {A : Type 0} (o : Option Refusal) (x y : A) → unless o (accepted x) ≡ accepted y → (o ≡ none) × (y ≡ x)
nothing-broken none x y e = (refl, cc)
nothing-broken (some r) x y e = let z : ◌≡◌ {A = ℕ} 0 1 = cc in absurd (omega arith)

found-list : {A B : Type 0} (e : Encoding Object A) (m : Encoding ℕ B) (s : List ℕ) (os : List A) (ms : List B) (n : ℕ) →
    (c4d_list_call e m s os ms).answer ≡ Ok n → (l : Layout) × Meets s l × (n ≡ length (objects l)) × RoomForAll e m (objects l) os ms
unfolding c4d_list_call objects_call
found-list e m s os ms n h =
    let given-of : Answer (List Object) → Result ℕ Refusal = λ a. (list_of e m os ms a).answer in
    let l = layout-found (λ (a : Answer Layout). given-of (objects_of (e.room (length os)) (m.room (length ms)) a)) (never-ok n) (verdict s) h in
    let rs = objects l.0 in
    let g = layout-found given-of (never-ok n) (objects_of (e.room (length os)) (m.room (length ms)) (accepted l.0)) l.2 in
    let b = nothing-broken (broken (room_conditions (e.room (length os)) (m.room (length ms)) rs)) rs g.0 g.1 in
    let r = met _ b.0 in
    (l.0, (accepted_exactly s l.0).0 l.1, same_ok g.2 ∙ ap length b.1, (leb-true _ _ r.0, leb-true _ _ r.1.0))

given : (s : List ℕ) (l : Layout) → Meets s l →
    {A B : Type 0} (e : Encoding Object A) (m : Encoding ℕ B) (os : List A) (ms : List B) → RoomForAll e m (objects l) os ms →
    c4d_list_call e m s os ms ≡ leaving (Ok (length (objects l)))
    (two_rows (filled (e.encode (objects l)) os) (filled (m.encode (all_materials (objects l))) ms))
unfolding c4d_list_call objects_call broken
given s l h e m os ms r = rw (verdict-good s l h, le-leb _ _ r.0, le-leb _ _ r.1)

pub demand2 : Demand2
unfolding c4d_check_call
demand2 = record {
  accepted = λ s n. (
    λ h.
        let l = layout-found check_of (never-ok n) (verdict s) h in
        (l.0, (accepted_exactly s l.0).0 l.1, same_ok l.2),
    λ l. rw (verdict-good s l.0 l.1, l.2),
  );
  listed = λ e m s os ms n. (found-list e m s os ms n, λ l. rw (given s l.0 l.1 e m os ms l.3, l.2));
  given = given;
}

-- ---- demand 3

materials_same : (ps : List Piece) (rs rs' : List Object) → Pairwise (Moved (λ r. r.offset) SameObject ps) rs rs' → all_materials rs' ≡ all_materials rs
materials_same ps [] [] h = refl
materials_same ps [] (r' ∷ rs') h = absurd h
materials_same ps (r ∷ rs) [] h = absurd h
materials_same ps (r ∷ rs) (r' ∷ rs') h = rw (h.0.else_same.materials_same, materials_same ps rs rs' h.1)

same-answers : (m : List (Mark Chunk)) (s s' : List ℕ) → verdict s ≡ accepted (without m) → verdict s' ≡ accepted (with m) → Unchanged m →
    SameAnswers (pieces chunk_size 12 m) s s'
unfolding c4d_check_call c4d_list_call objects_call broken
same-answers m s s' v v' u =
    let ps = pieces chunk_size 12 m in
    let old = objects (without m) in
    let new = objects (with m) in
    let n : length new ≡ length old = equally_long (Moved (λ r. r.offset) SameObject ps) old new u in
    let k : all_materials new ≡ all_materials old = materials_same ps old new u in
    record {
      objects = old;
      objects' = new;
      moved = u;
      accepted = rw v;
      accepted' = rw (v', n);
      list-given = λ e t os ms h l. (rw (v, le-leb _ _ h, le-leb _ _ l), rw (v', n, k, le-leb _ _ h, le-leb _ _ l) (rw (n, k)));
      objects-refused = λ e t os ms h. (rw (v, lt-leb _ _ h), rw (v', n, lt-leb _ _ h));
      materials_refused = λ e t os ms h l. (rw (v, le-leb _ _ h, lt-leb _ _ l), rw (v', n, k, le-leb _ _ h, lt-leb _ _ l));
    }

pub demand3 : Demand3
demand3 = record {
  put_in_lem = λ m s h may n.
      let v = verdict-good s (without m) h in
      let d = put_in_lem m s v may n in
      same-answers m s (bytes (with m)) v d.0 d.1;
  taken_out = λ m s' h may.
      let v = verdict-good s' (with m) h in
      let d = taken_out m s' v may in
      same-answers m (bytes (without m)) s' d.0 v d.1;
}
