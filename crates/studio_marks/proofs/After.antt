-- The marks after a run: which slots were seen, and where the one chunk of a slot stands.
use mathlib.Core.Path.{◌≡◌, refl, sym, ◌∙◌}
use mathlib.Core.Logic.{◌↔◌}
use mathlib.Core.Bool.{Bool, true, false, ◌||◌, cond}
use mathlib.Core.List.{List, [], ◌∷◌}
use Prim.Native.Nat.{ℕ, ◌+◌, ◌≤◌}
use native.Mathlib.Omega.{arith}
use lib.Dec.{eqb}
use lib.ListN.{length, get_or}
use borrow.Author.Tests.{eqb-true, eqb-false, eq-eqb, ne_eqb}
use Rattle.shared_words.specs.Lists.{among}
use Rattle.studio_rules.specs.Layout.{Run, end, skip, known, size, identifiers, offset_of}
use Rattle.studio_rules.specs.Parses.{Place, Parses}
use Rattle.studio_row.specs.Packed.{slot_of}
use Rattle.studio_marks.specs.Marks.{tally_slot, Under, noted, marks_after}
use Rattle.studio_marks.proofs.Noted.{noted-length, SlotOf, hit, miss}

pub under_of : (p : Place) (t : Run) → Parses p t → Under p.id (identifiers t)
under_of p end h = tt
under_of p (skip id body rest) h = under_of p rest h.1
under_of p (known id own kids rest) h = (h.0.in_place, under_of p rest h.2)

-- a slot is empty just where it was, and no chunk of it came
pub marks-zero : (o : ℕ) (t : Run) (ms : List ℕ) (k : ℕ) → 1 ≤ o → SlotOf k ms →
    (get_or (marks_after o t ms) k 0 ≡ 0) ↔ ((get_or ms k 0 ≡ 0) × (tally_slot k (identifiers t) ≡ 0))
marks-zero o end ms k h l = (λ e. (e, refl), λ e. e.0)
marks-zero o (skip id body rest) ms k h l = marks-zero (o + (6 + length body)) rest ms k (omega arith) l
marks-zero o (known id own kids rest) ms k h l =
    go (eqb (slot_of id) k) refl (marks-zero (o + (6 + length own + size kids)) rest (noted (slot_of id) o ms) k (omega arith) (l.0, noted-length (slot_of id) o ms ∙ l.1))
  where
    go : (b : Bool) → eqb (slot_of id) k ≡ b →
        ((get_or (marks_after (o + (6 + length own + size kids)) rest (noted (slot_of id) o ms)) k 0 ≡ 0) ↔ ((get_or (noted (slot_of id) o ms) k 0 ≡ 0) × (tally_slot k (identifiers rest) ≡ 0))) →
        (get_or (marks_after (o + (6 + length own + size kids)) rest (noted (slot_of id) o ms)) k 0 ≡ 0) ↔ ((get_or ms k 0 ≡ 0) × (cond b 1 0 + tally_slot k (identifiers rest) ≡ 0))
    go true e ih = (
      λ z. absurd (omega (arith, (ih.0 z).0, hit ms k o l (slot_of id) (eqb-true _ _ e))),
      λ z. absurd (omega (arith, z.1)),
    )
    go false e ih =
        let m = miss ms k o l (slot_of id) (eqb-false _ _ e) in (
          λ z. (sym m ∙ (ih.0 z).0, omega (arith, (ih.0 z).1)),
          λ z. ih.1 (m ∙ z.0, omega (arith, z.1)),
        )

-- x alone has slot k among the children: the mark is its offset, or what was there
abbrev pub Alone : ℕ → ℕ → List ℕ → Type 0
Alone x k [] = Unit
Alone x k (y ∷ ys) = (eqb (slot_of y) k ≡ eqb y x) × Alone x k ys

-- where none of a slot comes, its mark stays
marks_stay : (o : ℕ) (t : Run) (ms : List ℕ) (k : ℕ) → SlotOf k ms → tally_slot k (identifiers t) ≡ 0 → get_or (marks_after o t ms) k 0 ≡ get_or ms k 0
marks_stay o end ms k l z = refl
marks_stay o (skip id body rest) ms k l z = marks_stay (o + (6 + length body)) rest ms k l z
marks_stay o (known id own kids rest) ms k l z =
    go (eqb (slot_of id) k) refl z (λ q. marks_stay (o + (6 + length own + size kids)) rest (noted (slot_of id) o ms) k (l.0, noted-length (slot_of id) o ms ∙ l.1) q)
  where
    go : (b : Bool) → eqb (slot_of id) k ≡ b → cond b 1 0 + tally_slot k (identifiers rest) ≡ 0 →
        (tally_slot k (identifiers rest) ≡ 0 → get_or (marks_after (o + (6 + length own + size kids)) rest (noted (slot_of id) o ms)) k 0 ≡ get_or (noted (slot_of id) o ms) k 0) →
        get_or (marks_after (o + (6 + length own + size kids)) rest (noted (slot_of id) o ms)) k 0 ≡ get_or ms k 0
    go true e z ih = absurd (omega (arith, z))
    go false e z ih = ih (omega (arith, z)) ∙ miss ms k o l (slot_of id) (eqb-false _ _ e)

pub marks-place : (x : ℕ) (o : ℕ) (t : Run) (ms : List ℕ) (k : ℕ) → SlotOf k ms → tally_slot k (identifiers t) ≤ 1 → Alone x k (identifiers t) →
    get_or (marks_after o t ms) k 0 ≡ cond (among x (identifiers t)) (offset_of x o t) (get_or ms k 0)
marks-place x o end ms k l f a = refl
marks-place x o (skip id body rest) ms k l f a = marks-place x (o + (6 + length body)) rest ms k l f a
marks-place x o (known id own kids rest) ms k l f a =
    go (eqb id x) refl a.0
    (λ q. marks-place x (o + (6 + length own + size kids)) rest (noted (slot_of id) o ms) k (l.0, noted-length (slot_of id) o ms ∙ l.1) q a.1) f
  where
    go : (b : Bool) → eqb id x ≡ b → eqb (slot_of id) k ≡ b →
        (tally_slot k (identifiers rest) ≤ 1 → get_or (marks_after (o + (6 + length own + size kids)) rest (noted (slot_of id) o ms)) k 0 ≡ cond (among x (identifiers rest)) (offset_of x (o + (6 + length own + size kids)) rest) (get_or (noted (slot_of id) o ms) k 0)) →
        cond (eqb (slot_of id) k) 1 0 + tally_slot k (identifiers rest) ≤ 1 →
        get_or (marks_after (o + (6 + length own + size kids)) rest (noted (slot_of id) o ms)) k 0 ≡
        cond (eqb x id || among x (identifiers rest)) (cond b o (offset_of x (o + (6 + length own + size kids)) rest)) (get_or ms k 0)
    go true e s ih f =
        let n : 1 + tally_slot k (identifiers rest) ≤ 1 = rw s at f in
        marks_stay (o + (6 + length own + size kids)) rest (noted (slot_of id) o ms) k (l.0, noted-length (slot_of id) o ms ∙ l.1) (omega arith) ∙
        hit ms k o l (slot_of id) (eqb-true _ _ s) ∙ rw (eq-eqb x id (sym (eqb-true id x e)))
    go false e s ih f =
        let n : 0 + tally_slot k (identifiers rest) ≤ 1 = rw s at f in
        ih (omega arith) ∙ rw (ne_eqb x id (λ q. eqb-false id x e (sym q)), miss ms k o l (slot_of id) (eqb-false _ _ s))
