-- What a packed row says, in the words of crate studio_rules: one test for each field, computed over the whole table.
use mathlib.Core.Path.{◌≡◌, refl, sym, ap, ◌∙◌}
use Prim.Native.Nat.{ℕ, ◌≤◌, ◌<◌}
use mathlib.Core.Bool.{Bool, true, false, not, ◌&&◌, ◌||◌, false≢true}
use mathlib.Core.List.{List, [], ◌∷◌}
use lib.Dec.{eqb, ltb, leb}
use borrow.Author.Tests.{eqb-true, not-true, ltb-true, leb-true}
use Rattle.shared_words.specs.Lists.{every, among}
use Rattle.studio_rules.specs.Table.{Shape, fixed, name, counted, each, named_words, named, rows, at_most_one_ids, at_least_one_ids, listed, under, shape, plus, limits, needs}
use Rattle.shared_words.proofs.Bools.{and_parts, or_second}
use Rattle.studio_rules.proofs.Rows.{every_id, listed-every, under-listed}
use Rattle.studio_row.specs.Packed.{places, kind_of, size_of, row_of, may_hold_in, plus_in, plain_in, slot_of, kind_in, size_in, shape_from, shape_in}

-- ---- tests that two things are the same

abbrev pub same : Bool → Bool → Bool
same true b = b
same false b = not b

pub same-is : (a b : Bool) → same a b ≡ true → a ≡ b
same-is true b h = sym h
same-is false true h = absurd (false≢true h)
same-is false false h = refl

-- ---- listed or not

listed_test : every_id (λ x. not (eqb (row_of x) 0)) rows ≡ true
unfolding rows every places limits at_most_one_ids row_of
listed_test = refl

pub row-of-listed : (x : ℕ) → listed x ≡ true → eqb (row_of x) 0 ≡ false
row-of-listed x l = not-true _ (listed-every (λ x. not (eqb (row_of x) 0)) listed_test x l)

pub row-of-unlisted : (x : ℕ) → listed x ≡ false → row_of x ≡ 0
unfolding row_of listed
row-of-unlisted x l = rw l

-- ---- the fields

plus_test : every_id (λ x. same (plus_in (row_of x)) (plus x)) rows ≡ true
unfolding rows every places limits at_most_one_ids row_of plus
plus_test = refl

pub plus-is : (x : ℕ) → listed x ≡ true → plus_in (row_of x) ≡ plus x
plus-is x l = same-is _ _ (listed-every (λ x. same (plus_in (row_of x)) (plus x)) plus_test x l)

may_hold_test : every_id (λ p. every_id (λ x. same (may_hold_in (row_of p) (row_of x)) (under p x)) rows) rows ≡ true
unfolding rows every places limits at_most_one_ids row_of under
may_hold_test = refl

pub may_hold_is : (p x : ℕ) → listed p ≡ true → listed x ≡ true → may_hold_in (row_of p) (row_of x) ≡ under p x
may_hold_is p x k l =
    same-is _ _
    (listed-every (λ x. same (may_hold_in (row_of p) (row_of x)) (under p x))
    (listed-every (λ p. every_id (λ x. same (may_hold_in (row_of p) (row_of x)) (under p x)) rows) may_hold_test p k) x l)

-- a shape by its kind and its size
shape-back : (sh : Shape) → shape_from (kind_of sh) (size_of sh) ≡ sh
shape-back (fixed k) = refl
shape-back name = refl
shape-back (counted k) = refl
shape-back (each k) = refl
shape-back named_words = refl
shape-back (named k) = refl

shape_test : every_id (λ x. eqb (kind_in (row_of x)) (kind_of (shape x)) && eqb (size_in (row_of x)) (size_of (shape x))) rows ≡ true
unfolding rows every places limits at_most_one_ids row_of shape
shape_test = refl

pub shape_is : (x : ℕ) → listed x ≡ true → shape_in (row_of x) ≡ shape x
unfolding shape_in
shape_is x l =
    let h = and_parts _ _ (listed-every (λ x. eqb (kind_in (row_of x)) (kind_of (shape x)) && eqb (size_in (row_of x)) (size_of (shape x))) shape_test x l) in
    rw (eqb-true (kind_in (row_of x)) (kind_of (shape x)) h.0, eqb-true (size_in (row_of x)) (size_of (shape x)) h.1) (shape-back (shape x))

-- own data before children: so many bytes, a name or counted elements
kind_test : every_id (λ x. not (plus_in (row_of x)) || ltb (kind_in (row_of x)) 3) rows ≡ true
unfolding rows every places limits at_most_one_ids row_of
kind_test = refl

pub holder_kind : (x : ℕ) → plus_in (row_of x) ≡ true → kind_in (row_of x) < 3
holder_kind x p = go (listed x) refl
  where
    go : (b : Bool) → listed x ≡ b → kind_in (row_of x) < 3
    go true l = ltb-true _ _ (or_second (not (plus_in (row_of x))) _ (listed-every (λ x. not (plus_in (row_of x)) || ltb (kind_in (row_of x)) 3) kind_test x l) (rw p))
    go false l = absurd (false≢true (ap plus_in (sym (row-of-unlisted x l)) ∙ p))

-- ---- plain rows

-- no rule speaks of the own data of a plain row
abbrev unruled : ℕ → Bool
unruled x = not (eqb x 0x4110) && (not (eqb x 0x4140) && (not (eqb x 0x4130) && not (eqb x 0xB010)))

plain_test : every_id (λ x. not (plain_in (row_of x)) || (eqb (kind_in (row_of x)) 0 && (not (plus x) && unruled x))) rows ≡ true
unfolding rows every places limits at_most_one_ids row_of plus
plain_test = refl

pub record Plain (x : ℕ) : Type 0 where
  pub shape-fixed : shape x ≡ fixed (size_in (row_of x))
  pub no_plus : plus x ≡ false
  pub not_4110 : eqb x 0x4110 ≡ false
  pub not_4140 : eqb x 0x4140 ≡ false
  pub not_4130 : eqb x 0x4130 ≡ false
  pub not_B010 : eqb x 0xB010 ≡ false

pub plain-is : (x : ℕ) → listed x ≡ true → plain_in (row_of x) ≡ true → Plain x
unfolding shape_in
plain-is x l p =
    let h = and_parts _ _ (or_second _ _ (listed-every (λ x. not (plain_in (row_of x)) || (eqb (kind_in (row_of x)) 0 && (not (plus x) && unruled x))) plain_test x l) (ap not p)) in
    let g = and_parts _ _ h.1 in
    let u = and_parts _ _ g.1 in
    let v = and_parts _ _ u.1 in
    let w = and_parts _ _ v.1 in
    record {
      shape-fixed = sym (shape_is x l) ∙ ap (λ (k : ℕ). shape_from k (size_in (row_of x))) (eqb-true (kind_in (row_of x)) 0 h.0);
      no_plus = not-true _ g.0;
      not_4110 = not-true _ u.0;
      not_4140 = not-true _ v.0;
      not_4130 = not-true _ w.0;
      not_B010 = not-true _ w.1;
    }

-- ---- slots: within a container, chunks of one slot are those of one group, and slot 5 is none's

-- the slot of a group is that of its first identifier
abbrev pub group_slot : List ℕ → ℕ
group_slot [] = 5
group_slot (x ∷ xs) = slot_of x

-- x is in a group just where their slots agree
abbrev pub SlotTest : ℕ → List ℕ → Bool
SlotTest x g = same (among x g) (eqb (slot_of x) (group_slot g)) && ltb (group_slot g) 5

abbrev slotted : ℕ → ℕ → Bool
slotted p x = not (under p x) || (every (SlotTest x) (limits p) && (eqb (slot_of x) 5 || not (every (λ g. not (among x g)) (limits p))))

slot_test : every_id (λ p. every_id (slotted p) rows) rows ≡ true
unfolding rows every places limits at_most_one_ids row_of under
slot_test = refl

pub slot_is : (p x : ℕ) → listed p ≡ true → under p x ≡ true →
    (every (SlotTest x) (limits p) ≡ true) × ((eqb (slot_of x) 5 || not (every (λ g. not (among x g)) (limits p))) ≡ true)
slot_is p x k u =
    and_parts _ _ (or_second (not (under p x)) _ (listed-every (slotted p) (listed-every (λ p. every_id (slotted p) rows) slot_test p k) x (under-listed p x u)) (rw u))

slot_small_test : every_id (λ x. leb (slot_of x) 5) rows ≡ true
unfolding rows every places limits at_most_one_ids row_of
slot_small_test = refl

pub slot_small : (x : ℕ) → listed x ≡ true → slot_of x ≤ 5
slot_small x l = leb-true (slot_of x) 5 (listed-every (λ x. leb (slot_of x) 5) slot_small_test x l)

-- ---- leaves

leaf_test : every_id (λ x. plus x || (every (λ g. false) (needs x) && not (eqb x 0x4100))) rows ≡ true
unfolding rows every plus needs at_least_one_ids
leaf_test = refl

-- a row without "+" needs no child, and is no mesh
pub leaf-is : (x : ℕ) → listed x ≡ true → plus x ≡ false → (every (λ (g : List ℕ). false) (needs x) ≡ true) × (eqb x 0x4100 ≡ false)
leaf-is x l e =
    let h = and_parts _ _ (or_second (plus x) _ (listed-every (λ x. plus x || (every (λ g. false) (needs x) && not (eqb x 0x4100))) leaf_test x l) e) in
    (h.0, not-true _ h.1)
