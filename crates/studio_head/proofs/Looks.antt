-- A look at a chunk, by how it ends: what it answers and what it leaves in the marks, in each context of the run.
use mathlib.Core.Path.{◌≡◌, refl, sym, ◌∙◌, subst}
use mathlib.Core.Bool.{true, false}
use mathlib.Core.List.{List, ◌∷◌}
use Prim.Native.Nat.{ℕ, ◌+◌, ◌≤◌, ◌<◌}
use native.Mathlib.Omega.{arith}
use lib.ListN.{length, get_or}
use lib.Seq.{slice}
use Rattle.shared_words.specs.declared.Refusal.{Refusal}
use Rattle.shared_words.specs.declared.Refusal.TheVariants.{Misplaced, Twice}
use Rattle.studio_rules.specs.Table.{listed, under}
use Rattle.studio_rules.specs.Rules.{Parent, few}
use Rattle.shared_words.specs.Conditions.{broken}
use Rattle.studio_rules.specs.Walk.{Step, stop, pass, header_conditions, length_field, step}
use Rattle.studio_row.specs.Packed.{row_of, slot_in, slot_of, may_hold_in}
use Rattle.studio_own_data.specs.Bounds.{BoundIs}
use Rattle.studio_marks.specs.Marks.{free, noted}
use Rattle.studio_head.specs.declared.Header.{Header}
use Rattle.studio_head.specs.declared.Head.{Head}
use Rattle.studio_head.specs.Heads.{HeaderIs, HeaderWithin, OrderIs, HeadIs, MarksAre, opened_by, header_of}
use Rattle.studio_head.specs.Contexts.{Room, Context}
use Rattle.studio_head.proofs.Opens.{step-fault, step_skip, step_misplaced, step_twice, step-opened, head_skip, row_listed, row-unlisted, marks-opened}
use Rattle.studio_head.proofs.Places.{under-is, few-is}
use Rattle.studio_head.proofs.Orders.{order_is}
use Rattle.std.specs.Prelude.{Result, Ok, Err}

module _ (s : List ℕ) (at end parent word : ℕ) (ms : List ℕ) where
  pub record Tells (ms' : List ℕ) (h : Result Head Refusal) : Type 0 where
    pub is : (p : Parent) (seen : List ℕ) → Context p seen parent word ms → HeadIs p seen at (step p seen at (slice at end s)) h
    pub marks : (p : Parent) (seen : List ℕ) → Context p seen parent word ms → MarksAre at (step p seen at (slice at end s)) ms ms'

  -- the step that is met, and what it comes to
  record Meets (ms' : List ℕ) (h : Result Head Refusal) (p : Parent) (seen : List ℕ) : Type 0 where
    met : Step
    here : step p seen at (slice at end s) ≡ met
    is : HeadIs p seen at met h
    marks : MarksAre at met ms ms'

  tells : {ms' : List ℕ} {h : Result Head Refusal} → ((p : Parent) (seen : List ℕ) → Context p seen parent word ms → Meets ms' h p seen) → Tells ms' h
  tells {ms'} {h} f =
      record {
        is = λ p seen k. let q = f p seen k in subst (λ (y : Step). HeadIs p seen at y h) (sym q.here) q.is;
        marks = λ p seen k. let q = f p seen k in subst (λ (y : Step). MarksAre at y ms ms') (sym q.here) q.marks;
      }

  pub look-fault : at < end → end ≤ length s → (r : Result Header Refusal) → HeaderIs s at (broken (header_conditions at (slice at end s) (length_field (slice at end s)))) r →
      {y : Refusal} → r ≡ Err y → Tells ms (Err y)
  look-fault o l r i {y} e = tells λ p seen k. record { met = stop y; here = step-fault p seen s at end o l r i y e; is = refl; marks = tt }

  -- the header is fine, and the row of its identifier has been looked up
  pub record Looked (id past row : ℕ) : Type 0 where
    pub order : at < end
    pub stays : end ≤ length s
    pub six : length ms ≡ 6
    pub header : Result Header Refusal
    pub told : HeaderIs s at (broken (header_conditions at (slice at end s) (length_field (slice at end s)))) header
    pub fine : header ≡ header_of id past
    pub within : HeaderWithin at end (header_of id past)
    pub row_is : row ≡ row_of id

  module _ {id past row : ℕ} (d : Looked id past row) where
    pub look_skip : row ≡ 0 → Tells ms (Ok (Head.Skip past))
    look_skip z =
        tells λ p seen k.
        record {
          met = pass id (slice (at + 6) past s) (slice past end s);
          here = step_skip p seen s at end d.order d.stays d.header d.told id past d.fine (row-unlisted id row d.row_is z);
          is = head_skip p seen s at past id (slice past end s) d.within.0 (omega (arith, d.within.1, d.stays));
          marks = refl;
        }

    module _ (n : row ≡ 0 → ⊥) where
      pub known : listed id ≡ true
      known = row_listed id row d.row_is n

      pub look_misplaced : may_hold_in parent row ≡ false → Tells ms (Err (Misplaced at))
      look_misplaced u =
          tells λ p seen k.
          let away = sym (under-is p seen parent word ms k id row d.row_is known) ∙ u in
          record { met = stop (Misplaced at); here = step_misplaced p seen s at end d.order d.stays d.header d.told id past d.fine known away; is = refl; marks = tt }

      module _ (u : may_hold_in parent row ≡ true) where
        placed : (p : Parent) (seen : List ℕ) → Context p seen parent word ms → under p.id id ≡ true
        placed p seen k = sym (under-is p seen parent word ms k id row d.row_is known) ∙ u

        few-of : (p : Parent) (seen : List ℕ) (k : Context p seen parent word ms) → free (slot_in row) ms ≡ few p.id (id ∷ seen)
        few-of p seen k = few-is p seen parent word ms k id row d.row_is known (placed p seen k)

        pub look_twice : (ms' : List ℕ) → free (slot_in row) ms ≡ false → Tells ms' (Err (Twice at))
        look_twice ms' f =
            tells λ p seen k.
            let h = step_twice p seen s at end d.order d.stays d.header d.told id past d.fine known (placed p seen k) (sym (few-of p seen k) ∙ f) in
            record { met = stop (Twice at); here = h; is = refl; marks = tt }

        pub look-opened : (ms' : List ℕ) → free (slot_in row) ms ≡ true → ms' ≡ noted (slot_of id) at ms → (order : ℕ) → order ≡ get_or ms 5 0 → (h : Result Head Refusal) →
            ((p : Parent) (seen rest : List ℕ) → under p.id id ≡ true → BoundIs p word → OrderIs id seen order → HeadIs p seen at (opened_by p at id (slice (at + 6) past s) rest) h) → Tells ms' h
        look-opened ms' f m order o h opens =
            tells λ p seen k.
            let body = slice (at + 6) past s in
            let rest = slice past end s in
            record {
              met = opened_by p at id body rest;
              here = step-opened p seen s at end d.order d.stays d.header d.told id past d.fine known (placed p seen k) (sym (few-of p seen k) ∙ f);
              is = opens p seen rest (placed p seen k) k.bound-is (order_is p seen parent word ms k id (placed p seen k) order o);
              marks = subst (MarksAre at (opened_by p at id body rest) ms) (sym m) (marks-opened p at id body rest ms);
            }

-- what the code knows once it has looked up the row
pub looked : (s : List ℕ) (at end parent word : ℕ) (ms : List ℕ) (id past row : ℕ) (r : Result Header Refusal) → at < end → Room end word s ms →
    HeaderIs s at (broken (header_conditions at (slice at end s) (length_field (slice at end s)))) r → r ≡ header_of id past → HeaderWithin at end (header_of id past) → row ≡ row_of id →
    Looked s at end parent word ms id past row
looked s at end parent word ms id past row r o room i e w h = record { order = o; stays = room.ends; six = room.six; header = r; told = i; fine = e; within = w; row_is = h }
