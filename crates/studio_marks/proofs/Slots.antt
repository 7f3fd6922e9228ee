-- Slots count the groups of "at most one": chunks of one slot in a container are those of one of its groups. So a mark
-- says whether one of the group was seen, and one more is too many just where the slot is not free.
use mathlib.Core.Path.{◌≡◌, refl, sym, ap, ◌∙◌}
use mathlib.Core.Logic.{◌↔◌}
use mathlib.Core.Bool.{Bool, true, false, not, ◌&&◌, ◌||◌, cond, true≢false}
use mathlib.Core.List.{List, [], ◌∷◌}
use Prim.Native.Nat.{ℕ, ◌+◌, ◌<◌, ◌≤◌}
use native.Mathlib.Omega.{arith}
use lib.Dec.{eqb, leb, ltb}
use lib.ListN.{get_or}
use borrow.Author.Tests.{eqb-true, eqb-false, ne_eqb, leb-true, le-leb, lt-leb, ltb-true, not-true}
use Rattle.shared_words.specs.Lists.{every}
use Rattle.shared_words.specs.Lists.{among}
use Rattle.studio_rules.specs.Table.{listed, under, limits}
use Rattle.studio_rules.specs.Rules.{tally, few}
use Rattle.shared_words.proofs.Bools.{and_parts, both, or_second}
use Rattle.studio_row.specs.Packed.{slot_of}
use Rattle.studio_row.proofs.Facts.{group_slot, SlotTest, slot_is, same-is, same}
use Rattle.studio_marks.specs.Marks.{tally_slot, Under, free}

-- ---- tests of lists

every-with : {A : Type 0} (p q r : A → Bool) (xs : List A) → ((x : A) → p x ≡ true → q x ≡ true → r x ≡ true) → every p xs ≡ true → every q xs ≡ true → every r xs ≡ true
unfolding every
every-with p q r [] w h k = refl
every-with p q r (x ∷ xs) w h k =
    let a = and_parts (p x) (every p xs) h in
    let b = and_parts (q x) (every q xs) k in
    both (r x) (every r xs) (w x a.0 b.0) (every-with p q r xs w a.1 b.1)

every_true : {A : Type 0} (xs : List A) → every (λ (x : A). true) xs ≡ true
unfolding every
every_true [] = refl
every_true (x ∷ xs) = every_true xs

-- ---- a group's tally is its slot's

abbrev pub all_slot : List ℕ → List ℕ → Bool
all_slot [] g = true
all_slot (x ∷ xs) g = SlotTest x g && all_slot xs g

all_slots : (p : ℕ) → listed p ≡ true → (xs : List ℕ) → Under p xs → every (all_slot xs) (limits p) ≡ true
all_slots p l [] u = every_true (limits p)
all_slots p l (x ∷ xs) u =
    every-with (SlotTest x) (all_slot xs) (all_slot (x ∷ xs)) (limits p) (λ g a b. both (SlotTest x g) (all_slot xs g) a b)
    (slot_is p x l u.0).0 (all_slots p l xs u.1)

in_group : (x : ℕ) (g : List ℕ) → SlotTest x g ≡ true → among x g ≡ eqb (slot_of x) (group_slot g)
in_group x g h = same-is (among x g) (eqb (slot_of x) (group_slot g)) (and_parts (same (among x g) (eqb (slot_of x) (group_slot g))) (ltb (group_slot g) 5) h).0

pub tally_slot_lem : (g xs : List ℕ) → all_slot xs g ≡ true → tally g xs ≡ tally_slot (group_slot g) xs
tally_slot_lem g [] h = refl
tally_slot_lem g (x ∷ xs) h =
    let a = and_parts (SlotTest x g) (all_slot xs g) h in
    rw (in_group x g a.0, tally_slot_lem g xs a.1)

-- the groups of a container, each with its slot: the tests that hold of them
module _ (p : ℕ) (l : listed p ≡ true) (xs : List ℕ) (u : Under p xs) where
  pub groups_slotted : every (all_slot xs) (limits p) ≡ true
  groups_slotted = all_slots p l xs u

-- ---- one more

module _ (p id : ℕ) (seen : List ℕ) (l : listed p ≡ true) (u : under p id ≡ true) (us : Under p seen) (f : few p seen ≡ true) where
  small_slot : (g : List ℕ) → SlotTest id g ≡ true → group_slot g < 5
  small_slot g h = ltb-true (group_slot g) 5 (and_parts (same (among id g) (eqb (slot_of id) (group_slot g))) (ltb (group_slot g) 5) h).1

  -- of no group
  one-more-free : eqb (slot_of id) 5 ≡ true → few p (id ∷ seen) ≡ true
  one-more-free e =
      every-with (SlotTest id) (λ g. leb (tally g seen) 1) (λ g. leb (tally g (id ∷ seen)) 1) (limits p)
      (λ g a b.
      let s = eqb-true (slot_of id) 5 e in
      let k = small_slot g a in
      let n : among id g ≡ false = in_group id g a ∙ ne_eqb (slot_of id) (group_slot g) (λ q. omega arith) in
      le-leb (tally g (id ∷ seen)) 1 (rw n (omega (arith, leb-true (tally g seen) 1 b))))
      (slot_is p id l u).0 f

  -- the first of its group
  one-more-first : tally_slot (slot_of id) seen ≡ 0 → few p (id ∷ seen) ≡ true
  one-more-first z =
      every-with (λ g. SlotTest id g && all_slot seen g) (λ g. leb (tally g seen) 1) (λ g. leb (tally g (id ∷ seen)) 1) (limits p)
      (λ g a b. go g (among id g) refl (and_parts (SlotTest id g) (all_slot seen g) a).0 (and_parts (SlotTest id g) (all_slot seen g) a).1 b)
      (every-with (SlotTest id) (all_slot seen) (λ g. SlotTest id g && all_slot seen g) (limits p) (λ g a b. both (SlotTest id g) (all_slot seen g) a b) (slot_is p id l u).0 (all_slots p l seen us)) f
    where
      go : (g : List ℕ) (e : Bool) → among id g ≡ e → SlotTest id g ≡ true → all_slot seen g ≡ true → leb (tally g seen) 1 ≡ true → leb (cond (among id g) 1 0 + tally g seen) 1 ≡ true
      go g true e a s b =
          let k : slot_of id ≡ group_slot g = eqb-true (slot_of id) (group_slot g) (sym (in_group id g a) ∙ e) in
          let t : tally g seen ≡ 0 = tally_slot_lem g seen s ∙ ap (λ (n : ℕ). tally_slot n seen) (sym k) ∙ z in
          rw (e, t)
      go g false e a s b = rw e (le-leb (0 + tally g seen) 1 (omega (arith, leb-true (tally g seen) 1 b)))

  -- one of its group was seen
  one-more_twice : eqb (slot_of id) 5 ≡ false → 1 ≤ tally_slot (slot_of id) seen → few p (id ∷ seen) ≡ false
  one-more_twice e z = go (few p (id ∷ seen)) refl
    where
      not_in : (g : List ℕ) (b : Bool) → among id g ≡ b → SlotTest id g ≡ true → all_slot seen g ≡ true → leb (tally g (id ∷ seen)) 1 ≡ true → not b ≡ true
      not_in g true b a s h =
          let k : slot_of id ≡ group_slot g = eqb-true (slot_of id) (group_slot g) (sym (in_group id g a) ∙ b) in
          let t : tally g seen ≡ tally_slot (slot_of id) seen = tally_slot_lem g seen s ∙ ap (λ (n : ℕ). tally_slot n seen) (sym k) in
          let n : cond (among id g) 1 0 + tally g seen ≤ 1 = leb-true (tally g (id ∷ seen)) 1 h in
          absurd (omega (arith, rw b at n))
      not_in g false b a s h = refl

      go : (b : Bool) → few p (id ∷ seen) ≡ b → b ≡ false
      go false h = refl
      go true h =
          absurd (true≢false (sym (
          every-with (λ g. SlotTest id g && all_slot seen g) (λ g. leb (tally g (id ∷ seen)) 1) (λ g. not (among id g)) (limits p)
          (λ g a b. not_in g (among id g) refl (and_parts (SlotTest id g) (all_slot seen g) a).0 (and_parts (SlotTest id g) (all_slot seen g) a).1 b)
          (every-with (SlotTest id) (all_slot seen) (λ g. SlotTest id g && all_slot seen g) (limits p) (λ g a b. both (SlotTest id g) (all_slot seen g) a b) (slot_is p id l u).0 (all_slots p l seen us)) h
          ) ∙ not-true _ (or_second (eqb (slot_of id) 5) _ (slot_is p id l u).1 e)))

  -- a slot is free just where one more is not too many
  pub free-is : (marks : List ℕ) → slot_of id ≤ 5 → (slot_of id < 5 → (get_or marks (slot_of id) 0 ≡ 0) ↔ (tally_slot (slot_of id) seen ≡ 0)) →
      free (slot_of id) marks ≡ few p (id ∷ seen)
  unfolding free
  free-is marks s m = go (eqb (slot_of id) 5) refl (eqb (get_or marks (slot_of id) 0) 0) refl
    where
      go : (a : Bool) → eqb (slot_of id) 5 ≡ a → (b : Bool) → eqb (get_or marks (slot_of id) 0) 0 ≡ b → (leb 5 (slot_of id) || eqb (get_or marks (slot_of id) 0) 0) ≡ few p (id ∷ seen)
      go true a b e = rw (le-leb 5 (slot_of id) (omega (arith, eqb-true (slot_of id) 5 a)), one-more-free a)
      go false a true e =
          let k : slot_of id < 5 = omega (arith, eqb-false (slot_of id) 5 a) in
          rw (lt-leb 5 (slot_of id) k, e, one-more-first ((m k).0 (eqb-true _ _ e)))
      go false a false e =
          let k : slot_of id < 5 = omega (arith, eqb-false (slot_of id) 5 a) in
          let z : tally_slot (slot_of id) seen ≡ 0 → ⊥ = λ q. eqb-false _ _ e ((m k).1 q) in
          rw (lt-leb 5 (slot_of id) k, e, one-more_twice a (omega arith))
