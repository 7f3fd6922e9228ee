-- A chunk by what stands at its start: a fault, an unlisted chunk, a leaf; and one with children, when they have been read.
use Rattle.std.specs.Prelude.{Ok, Err, Result}
use mathlib.Core.Path.{◌≡◌, refl, sym, ap, ◌∙◌, subst}
use mathlib.Core.Bool.{Bool, true, false, cond, true≢false}
use mathlib.Core.List.{List, []}
use mathlib.Core.Option.{Option, none, some}
use Prim.Native.Nat.{ℕ, ◌+◌, ◌-◌, ◌≤◌, ◌<◌, ◌^◌}
use native.Mathlib.Omega.{arith}
use lib.Dec.{leb}
use lib.ListN.{length}
use lib.Seq.{slice}
use Rattle.shared_words.specs.declared.Refusal.{Refusal}
use Rattle.shared_words.specs.Bytes.{Bytes}
use Rattle.shared_words.specs.Lists.{every}
use Rattle.studio_rules.specs.Table.{listed, plus, needs}
use Rattle.studio_rules.specs.Layout.{Run, end}
use Rattle.studio_rules.specs.Rules.{Parent, inside, tally}
use Rattle.studio_rules.specs.Gives.{record_count, skipped}
use Rattle.shared_words.specs.Conditions.{broken, Answer, refused, accepted, unless}
use Rattle.studio_rules.specs.Walk.{Step, stop, pass, enter, end_conditions, ended, walk}
use Rattle.shared_words.proofs.Bools.{every_weaker}
use Rattle.shared_words.proofs.Conditions.{unbroken}
use Rattle.studio_rules.proofs.Rows.{under-listed}
use Rattle.studio_rules.proofs.Sound.{Tells, walk-tells}
use Rattle.studio_rules.proofs.Steps.{Says}
use Rattle.studio_rules.proofs.Fuel.{walk_nil}
use Rattle.studio_row.specs.Packed.{row_of, slot_of}
use Rattle.studio_row.proofs.Facts.{leaf-is}
use Rattle.studio_own_data.specs.Bounds.{bound_of}
use Rattle.studio_marks.specs.Marks.{noted, no_marks, Kept, ShutIs}
use Rattle.studio_head.specs.declared.Head.{Head}
use Rattle.studio_walk.specs.declared.Ran.{Ran}
use Rattle.studio_head.specs.Heads.{HeadIs, MarksAre}
use Rattle.studio_walk.specs.Runs.{ClosedIs, closed_to, ChunkIs, RunIs, ran_to}
use Rattle.studio_walk.proofs.Parts.{bytes-slice}

-- nothing is two things at once
pub clash : ◌≡◌ {A = ℕ} 0 1 → ⊥
clash z = omega arith

-- a chunk or a run comes to one end
pub ran-same : {a b c d e f : ℕ} → ran_to a b c ≡ ran_to d e f → (a ≡ d) × (b ≡ e) × (c ≡ f)
ran-same {a} {b} {c} {d} {e} {f} h =
    let r : ◌≡◌ {A = Ran} record { next = a; records = b; skipped = c } record { next = d; records = e; skipped = f } = cc in
    (ap (λ (x : Ran). x.next) r, ap (λ (x : Ran). x.records) r, ap (λ (x : Ran). x.skipped) r)

-- ---- at its end

pub closed-fault : (past n k : ℕ) (x : Option Refusal) (y : Refusal) → ShutIs x (Err y) → Err y ≡ closed_to past n k x
closed-fault past n k (some z) y h = cc
closed-fault past n k none y h = absurd (clash (cc))

pub closed_fine : (past n k : ℕ) (x : Option Refusal) → ShutIs x (Ok tt) → ran_to past (n + 1) k ≡ closed_to past n k x
closed_fine past n k (some z) h = absurd (clash (cc))
closed_fine past n k none h = refl

-- ---- without children

module _ (p : Parent) (seen : List ℕ) (at : ℕ) (ms ms' : List ℕ) where
  pub chunk-fault : (x : Step) (y : Refusal) → HeadIs p seen at x (Err y) → ChunkIs p seen at x (Err y) ms ms'
  chunk-fault (stop z) y h = cc
  chunk-fault (pass id body rest) y h = absurd (clash (cc))
  chunk-fault (enter id own kids rest) y h = go (plus id) h
    where
      go : (b : Bool) → ◌≡◌ {A = Result Head Refusal} (Err y) (cond b (Ok (Head.Enter id (row_of id) (bound_of (inside p seen id own)) (at + (6 + length own)) (at + (6 + length own + length kids)))) (Ok (Head.Leaf (at + (6 + length own + length kids))))) →
          ClosedIs (at + (6 + length own + length kids)) (ended (inside p seen id own) at (walk (inside p seen id own) [] (at + (6 + length own)) kids)) (Err y) × (ms' ≡ noted (slot_of id) at ms)
      go true h = absurd (clash (cc))
      go false h = absurd (clash (cc))

  pub chunk-skip : (x : Step) (past : ℕ) → HeadIs p seen at x (Ok (Head.Skip past)) → MarksAre at x ms ms' → ChunkIs p seen at x (ran_to past 0 (past - at)) ms ms'
  chunk-skip (stop z) past h m = absurd (clash (cc))
  chunk-skip (pass id body rest) past h m =
      let q : past ≡ at + (6 + length body) = cc in
      let r : past - at ≡ 6 + length body = omega arith in
      (rw (r, q), m)
  chunk-skip (enter id own kids rest) past h m = go (plus id) h
    where
      go : (b : Bool) → ◌≡◌ {A = Result Head Refusal} (Ok (Head.Skip past)) (cond b (Ok (Head.Enter id (row_of id) (bound_of (inside p seen id own)) (at + (6 + length own)) (at + (6 + length own + length kids)))) (Ok (Head.Leaf (at + (6 + length own + length kids))))) →
          ClosedIs (at + (6 + length own + length kids)) (ended (inside p seen id own) at (walk (inside p seen id own) [] (at + (6 + length own)) kids)) (ran_to past 0 (past - at)) × (ms' ≡ noted (slot_of id) at ms)
      go true h = absurd (clash (cc))
      go false h = absurd (clash (cc))

-- a leaf at its end: it needs no child and is no mesh
leaf-ended : (p : Parent) (seen : List ℕ) (at id : ℕ) (own : List ℕ) → listed id ≡ true → plus id ≡ false → ended (inside p seen id own) at (accepted end) ≡ accepted end
leaf-ended p seen at id own l e =
    let f = leaf-is id l e in
    let none_needed : every (λ (g : List ℕ). leb 1 (tally g [])) (needs id) ≡ true = every_weaker (λ (g : List ℕ). false) (λ (g : List ℕ). leb 1 (tally g [])) (needs id) (λ g h. absurd (true≢false (sym h))) f.0 in
    rw (unbroken (end_conditions (inside p seen id own) at end) (none_needed, (rw f.1, (rw f.1, tt))))

pub chunk-leaf : (p : Parent) (seen s : List ℕ) (at : ℕ) (ms ms' : List ℕ) (x : Step) → Says p seen s x → (past : ℕ) → HeadIs p seen at x (Ok (Head.Leaf past)) → MarksAre at x ms ms' → ChunkIs p seen at x (ran_to past 1 0) ms ms'
chunk-leaf p seen s at ms ms' (stop z) g past h m = absurd (clash (cc))
chunk-leaf p seen s at ms ms' (pass id body rest) g past h m = absurd (clash (cc))
chunk-leaf p seen s at ms ms' (enter id own kids rest) g past h m = (go (plus id) refl h, m)
  where
    go : (b : Bool) → plus id ≡ b → ◌≡◌ {A = Result Head Refusal} (Ok (Head.Leaf past)) (cond b (Ok (Head.Enter id (row_of id) (bound_of (inside p seen id own)) (at + (6 + length own)) (at + (6 + length own + length kids)))) (Ok (Head.Leaf (at + (6 + length own + length kids))))) →
        ClosedIs (at + (6 + length own + length kids)) (ended (inside p seen id own) at (walk (inside p seen id own) [] (at + (6 + length own)) kids)) (ran_to past 1 0)
    go true e h = absurd (clash (cc))
    go false e h =
        let q : past ≡ at + (6 + length own + length kids) = cc in
        let a : ended (inside p seen id own) at (walk (inside p seen id own) [] (at + (6 + length own)) kids) ≡ accepted end =
        ap (λ (k : List ℕ). ended (inside p seen id own) at (walk (inside p seen id own) [] (at + (6 + length own)) k)) (g.leaf e) ∙ ap (ended (inside p seen id own) at) (walk_nil (inside p seen id own) [] (at + (6 + length own))) ∙
        leaf-ended p seen at id own (under-listed p.id id g.lawful.in_place) e in
        subst (λ (y : Answer Run). ClosedIs (at + (6 + length own + length kids)) y (ran_to past 1 0)) (sym a) (rw q)

-- ---- with children

-- what a chunk that may have children was found to be
pub record Entering (p : Parent) (seen : List ℕ) (at : ℕ) (x : Step) (id row word from past : ℕ) : Type 0 where
  pub own : List ℕ
  pub kids : List ℕ
  pub rest : List ℕ
  pub is : x ≡ enter id own kids rest
  pub row_is : row ≡ row_of id
  pub word_is : word ≡ bound_of (inside p seen id own)
  pub from_is : from ≡ at + (6 + length own)
  pub past_is : past ≡ at + (6 + length own + length kids)

pub entering : (p : Parent) (seen : List ℕ) (at : ℕ) (x : Step) (id row word from past : ℕ) → HeadIs p seen at x (Ok (Head.Enter id row word from past)) → Entering p seen at x id row word from past
entering p seen at (stop z) id row word from past h = absurd (clash (cc))
entering p seen at (pass id' body rest) id row word from past h = absurd (clash (cc))
entering p seen at (enter id' own kids rest) id row word from past h = go (plus id') h
  where
    go : (b : Bool) → ◌≡◌ {A = Result Head Refusal} (Ok (Head.Enter id row word from past)) (cond b (Ok (Head.Enter id' (row_of id') (bound_of (inside p seen id' own)) (at + (6 + length own)) (at + (6 + length own + length kids)))) (Ok (Head.Leaf (at + (6 + length own + length kids))))) →
        Entering p seen at (enter id' own kids rest) id row word from past
    go false h = absurd (clash (cc))
    go true h =
        let i : id ≡ id' = cc in
        record { own = own; kids = kids; rest = rest; is = rw i; row_is = cc; word_is = cc; from_is = cc; past_is = cc }

module _ (p : Parent) (seen s : List ℕ) (at id from past : ℕ) (own : List ℕ) (b : Bytes s) (order : from ≤ past) (stays : past ≤ length s) (small : length s < 2 ^ 32) (starts : 1 ≤ from) where
  abbrev answer : Answer Run
  answer = walk (inside p seen id own) [] from (slice from past s)

  -- the children were refused
  pub run-refused : (a : Answer Run) (y : Refusal) (ms : List ℕ) → RunIs past 0 0 from no_marks a (Err y) ms → a ≡ refused y
  run-refused (refused x) y ms h = cc
  run-refused (accepted t) y ms h = let q = h.0 in absurd (clash (cc))

  -- the children were accepted: their layout, and the marks that they left
  pub record Ran-well (a : Answer Run) (n k : ℕ) (ms : List ℕ) : Type 0 where
    pub t : Run
    pub is : a ≡ accepted t
    pub records_are : n ≡ record_count t
    pub skipped_are : k ≡ skipped t
    pub kept : Kept (inside p seen id own) t s from past ms

  pub run-accepted : (next n k : ℕ) (ms : List ℕ) → RunIs past 0 0 from no_marks answer (ran_to next n k) ms →
      Ran-well answer n k ms
  run-accepted next n k ms h = go answer h (walk-tells (inside p seen id own) [] from (slice from past s) (bytes-slice s from past b))
    where
      go : (a : Answer Run) → RunIs past 0 0 from no_marks a (ran_to next n k) ms → Tells (inside p seen id own) [] (slice from past s) a → Ran-well a n k ms
      go (refused x) h t = absurd (clash (cc))
      go (accepted t) h v =
          let q = h.0 in
          let (next-is, n-is, k-is) = ran-same q in
          record {
            t = t;
            is = refl;
            records_are = omega arith;
            skipped_are = omega arith;
            kept = record { begins = starts; stands = record { order = order; stays = stays; small = small; is = v.is }; obeys = v.obeys; marked = h.1 };
          }

-- the chunk, once its children are read
module _ (p : Parent) (seen : List ℕ) (at id : ℕ) (own kids rest ms : List ℕ) (past : ℕ) (q : past ≡ at + (6 + length own + length kids)) where
  pub chunk-refused : (y : Refusal) → walk (inside p seen id own) [] (at + (6 + length own)) kids ≡ refused y → ChunkIs p seen at (enter id own kids rest) (Err y) ms (noted (slot_of id) at ms)
  chunk-refused y e = (rw e, refl)

  pub chunk-closed : (r : Result Ran Refusal) (t : Run) (n k : ℕ) → walk (inside p seen id own) [] (at + (6 + length own)) kids ≡ accepted t → n ≡ record_count t → k ≡ skipped t → r ≡ closed_to past n k (broken (end_conditions (inside p seen id own) at t)) →
      ChunkIs p seen at (enter id own kids rest) r ms (noted (slot_of id) at ms)
  chunk-closed r t n k e f g h = (rw e (go (broken (end_conditions (inside p seen id own) at t)) h), refl)
    where
      go : (x : Option Refusal) → r ≡ closed_to past n k x → ClosedIs (at + (6 + length own + length kids)) (unless x (accepted t)) r
      go (some x) h = h
      go none h =
          let same : ran_to past (n + 1) k ≡ ran_to (at + (6 + length own + length kids)) (record_count t + 1) (skipped t) = rw (q, f, g) in
          h ∙ same
