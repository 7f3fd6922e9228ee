-- A chunk with children, from what was found at its start to what it comes to at its end.
use mathlib.Core.Path.{◌≡◌, refl, sym, ap, ◌∙◌, subst}
use mathlib.Core.Bool.{Bool}
use mathlib.Core.List.{List, []}
use Prim.Native.Nat.{ℕ, ◌+◌, ◌≤◌, ◌<◌, ◌^◌}
use native.Mathlib.Omega.{arith}
use lib.ListN.{length}
use lib.Seq.{slice}
use Rattle.shared_words.specs.declared.Refusal.{Refusal}
use Rattle.shared_words.specs.Bytes.{Bytes}
use Rattle.studio_rules.specs.Rules.{Parent, inside}
use Rattle.studio_rules.specs.Walk.{Step, enter, step, walk}
use Rattle.studio_rules.proofs.Rows.{under-listed}
use Rattle.studio_rules.proofs.Steps.{Says, Entered, step-says}
use Rattle.studio_row.specs.Packed.{slot_of}
use Rattle.studio_marks.specs.Marks.{noted, no_marks, Kept, MeshPlaced, RuleIs}
use Rattle.studio_marks.proofs.Ends.{mesh-placed}
use Rattle.studio_head.specs.declared.Head.{Head}
use Rattle.studio_walk.specs.declared.Ran.{Ran}
use Rattle.studio_head.specs.Heads.{HeadIs, MarksAre, HeadWithin}
use Rattle.studio_head.specs.Contexts.{Room, Context}
use Rattle.studio_walk.specs.Runs.{ClosesBy, ChunkIs, RunIs, ran_to}
use Rattle.studio_walk.proofs.Contexts.{context_inside, own_bytes, bound_small}
use Rattle.studio_walk.proofs.Parts.{bytes-slice, PartsAt, EnteredAt, step-parts}
use Rattle.studio_walk.proofs.Chunks.{Entering, entering, Ran-well, run-refused, run-accepted, chunk-refused, chunk-closed}
use Rattle.studio_walk.proofs.Runs.{run_ends}
use Rattle.std.specs.Prelude.{Ok, Result, Err}

-- a chunk that may have children was met at `at`, in a run of q up to end: what was found at its start
pub record Opened (s : List ℕ) (at end : ℕ) (q : Parent) (seen ms ms₁ : List ℕ) (id row word from past : ℕ) : Type 0 where
  pub starts : at < end
  pub ends : end ≤ length s
  pub small : length s < 2 ^ 32
  pub are_bytes : Bytes s
  pub head : HeadIs q seen at (step q seen at (slice at end s)) (Ok (Head.Enter id row word from past))
  pub marks : MarksAre at (step q seen at (slice at end s)) ms ms₁
  pub within : HeadWithin at end (Ok (Head.Enter id row word from past))

-- by what the code knows of it
pub opened : (s : List ℕ) (at end count : ℕ) (q : Parent) (seen ms ms₁ : List ℕ) (id row word from past : ℕ) → at < end → Room end count s ms → Bytes s →
    HeadIs q seen at (step q seen at (slice at end s)) (Ok (Head.Enter id row word from past)) → MarksAre at (step q seen at (slice at end s)) ms ms₁ → HeadWithin at end (Ok (Head.Enter id row word from past)) →
    Opened s at end q seen ms ms₁ id row word from past
opened s at end count q seen ms ms₁ id row word from past o room b h m w =
    record { starts = o; ends = room.ends; small = omega (arith, room.short); are_bytes = b; head = h; marks = m; within = w }

module _ {s : List ℕ} {at end : ℕ} {q : Parent} {seen ms ms₁ : List ℕ} {id row word from past : ℕ} (o : Opened s at end q seen ms ms₁ id row word from past) where
  pub ent : Entering q seen at (step q seen at (slice at end s)) id row word from past
  ent = entering q seen at (step q seen at (slice at end s)) id row word from past o.head

  says : Entered q seen (slice at end s) id ent.own ent.kids ent.rest
  says = subst (Says q seen (slice at end s)) ent.is (step-says q seen at (slice at end s) (bytes-slice s at end o.are_bytes))

  stands : EnteredAt s at end (at + (6 + length ent.own)) (at + (6 + length ent.own + length ent.kids)) ent.kids ent.rest
  stands = subst (PartsAt s at end) ent.is (step-parts s at end o.starts o.ends q seen o.are_bytes)

  kids_are : ent.kids ≡ slice from past s
  kids_are = stands.kids_are ∙ ap (λ (k : ℕ). slice k (at + (6 + length ent.own + length ent.kids)) s) (sym ent.from_is) ∙ ap (λ (k : ℕ). slice from k s) (sym ent.past_is)

  -- its children are walked in it
  pub inner_context : Context (inside q seen id ent.own) [] row word no_marks
  inner_context = context_inside q seen id ent.own row word (under-listed q.id id says.lawful.in_place) ent.row_is record { is = ent.word_is; small = rw ent.word_is (bound_small q seen id ent.own (own_bytes says (bytes-slice s at end o.are_bytes))) }

  inner-walk : walk (inside q seen id ent.own) [] (at + (6 + length ent.own)) ent.kids ≡ walk (inside q seen id ent.own) [] from (slice from past s)
  inner-walk = ap (walk (inside q seen id ent.own) [] (at + (6 + length ent.own))) kids_are ∙ ap (λ (k : ℕ). walk (inside q seen id ent.own) [] k (slice from past s)) (sym ent.from_is)

  marks_are : ms₁ ≡ noted (slot_of id) at ms
  marks_are = subst (λ (x : Step). MarksAre at x ms ms₁) ent.is o.marks

  -- back to the step and the marks as they are
  whole : (z : Result Ran Refusal) → ChunkIs q seen at (enter id ent.own ent.kids ent.rest) z ms (noted (slot_of id) at ms) → ChunkIs q seen at (step q seen at (slice at end s)) z ms ms₁
  whole z h = subst (λ (x : Step). ChunkIs q seen at x z ms ms₁) (sym ent.is) (subst (ChunkIs q seen at (enter id ent.own ent.kids ent.rest) z ms) (sym marks_are) h)

  stays : past ≤ length s
  stays = omega (arith, o.within.2, o.ends)

  begins : 1 ≤ from
  begins = omega (arith, o.within.0)

  -- what the run of its children came to
  pub record Children (r : Result Ran Refusal) (inner : List ℕ) : Type 0 where
    pub are : RunIs past 0 0 from no_marks (walk (inside q seen id ent.own) [] from (slice from past s)) r inner

  -- by what is known of that run in any context
  pub children : {r z : Result Ran Refusal} {inner : List ℕ} {as_many : Bool} → RuleIs q as_many →
      ((p : Parent) (before : List ℕ) → RuleIs p as_many → Context p before row word no_marks → RunIs past 0 0 from no_marks (walk p before from (slice from past s)) r inner) → r ≡ z → Children z inner
  children {inner = inner} rule h e =
      record { are = subst (λ (x : Result Ran Refusal). RunIs past 0 0 from no_marks (walk (inside q seen id ent.own) [] from (slice from past s)) x inner) e (h (inside q seen id ent.own) [] rule inner_context) }

  -- there are none
  pub no-children : past ≤ from → Children (ran_to past 0 0) no_marks
  no-children h = record { are = run_ends (inside q seen id ent.own) [] s from past 0 0 no_marks h }

  pub enter-refused : {y : Refusal} {inner : List ℕ} → Children (Err y) inner → ChunkIs q seen at (step q seen at (slice at end s)) (Err y) ms ms₁
  enter-refused {y} {inner} h =
      whole (Err y)
      (chunk-refused q seen at id ent.own ent.kids ent.rest ms past ent.past_is y (inner-walk ∙ run-refused q seen s at id from past ent.own o.are_bytes o.within.1 stays o.small begins _ y inner h.are))

  module _ {next n k : ℕ} {inner : List ℕ} (h : Children (ran_to next n k) inner) where
    well : Ran-well q seen s at id from past ent.own o.are_bytes o.within.1 stays o.small begins (walk (inside q seen id ent.own) [] from (slice from past s)) n k inner
    well = run-accepted q seen s at id from past ent.own o.are_bytes o.within.1 stays o.small begins next n k inner h.are

    kept : Kept (inside q seen id ent.own) well.t s (at + (6 + length ent.own)) past inner
    kept = subst (λ (j : ℕ). Kept (inside q seen id ent.own) well.t s j past inner) ent.from_is well.kept

    pub enter-placed : id ≡ 0x4100 → MeshPlaced s inner
    enter-placed i = mesh-placed (inside q seen id ent.own) i well.t s from past inner well.kept

    -- what the end of the chunk was found to be
    pub enter-closed : {as_many : Bool} → RuleIs q as_many → (r : Result Ran Refusal) → ClosesBy s id at as_many inner past n k r → ChunkIs q seen at (step q seen at (slice at end s)) r ms ms₁
    enter-closed rule r closes =
        whole r
        (chunk-closed q seen at id ent.own ent.kids ent.rest ms past ent.past_is r well.t n k (inner-walk ∙ well.is) well.records_are well.skipped_are
        (closes (inside q seen id ent.own) well.t past refl rule kept))
