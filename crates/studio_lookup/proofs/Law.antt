-- The slot of an identifier has its row, and no slot has an unlisted one: tests computed over the rows and over the slots.
use mathlib.Core.Path.{◌≡◌, refl, sym, ◌∙◌}
use mathlib.Core.Bool.{Bool, true, false, ◌||◌, cond}
use Prim.Native.Nat.{ℕ, ◌%◌, ◌^◌, ◌<◌}
use lib.Dec.{T, eqb}
use lib.ListN.{length, get_or}
use native.Mathlib.Omega.{arith}
use borrow.Author.Tests.{eqb-true}
use Rattle.shared_words.specs.Lists.{every}
use Rattle.studio_rules.specs.Table.{rows, limits, at_most_one_ids, listed}
use Rattle.studio_rules.proofs.Rows.{every_id, listed-every}
use Rattle.studio_row.specs.Packed.{places, row_of}
use Rattle.studio_row.proofs.Facts.{row-of-unlisted}
use Rattle.studio_lookup.specs.Slots.{slots, place, slot_at, free, id_in, row_in, found}
use Rattle.studio_lookup.proofs.Entries.{at}

-- each identifier of the table is found in its place
rows_test : every_id (λ x. eqb (found (slot_at x) x) (row_of x)) rows ≡ true
unfolding rows every places limits at_most_one_ids row_of slots
rows_test = refl

-- and stands there
ids_test : every_id (λ x. id_in (slot_at x) x) rows ≡ true
unfolding rows every places limits at_most_one_ids row_of slots
ids_test = refl

-- what stands in a slot is an identifier of the table, or none
abbrev owned : ℕ → ℕ → Bool
owned k s = listed (s % 2 ^ 20) || eqb s free

owned_at : (k : ℕ) → k < length slots → T (owned k (get_or slots k 0))
unfolding slots rows listed places limits at_most_one_ids row_of
owned_at k h = at owned slots tt k h

T_true : (b : Bool) → T b → b ≡ true
T_true true t = refl
T_true false t = absurd t

slots_length : length slots ≡ 128
unfolding slots
slots_length = refl

-- a slot with an identifier that is not listed is free
free_slot : (x : ℕ) → listed x ≡ false → id_in (slot_at x) x ≡ true → slot_at x ≡ free
free_slot x l e =
    let own : T (owned (place x) (slot_at x)) = owned_at (place x) (rw slots_length (omega arith)) in
    eqb-true (slot_at x) free (T_true _ (rw (eqb-true (slot_at x % 2 ^ 20) x e, l) at own))

pub slot_law : (x : ℕ) → found (slot_at x) x ≡ row_of x
slot_law x = go (listed x) refl
  where
    none : listed x ≡ false → (b : Bool) → id_in (slot_at x) x ≡ b → cond b (row_in (slot_at x)) 0 ≡ 0
    none l false e = refl
    none l true e = rw (free_slot x l e)

    go : (b : Bool) → listed x ≡ b → found (slot_at x) x ≡ row_of x
    go true l = eqb-true (found (slot_at x) x) (row_of x) (listed-every (λ x. eqb (found (slot_at x) x) (row_of x)) rows_test x l)
    go false l = none l (id_in (slot_at x) x) refl ∙ sym (row-of-unlisted x l)

pub slot_lists : (x : ℕ) → x < 2 ^ 16 → id_in (slot_at x) x ≡ listed x
slot_lists x h = go (listed x) refl
  where
    none : listed x ≡ false → (b : Bool) → id_in (slot_at x) x ≡ b → b ≡ false
    none l false e = refl
    none l true e =
        let k : slot_at x % 2 ^ 20 ≡ x = eqb-true (slot_at x % 2 ^ 20) x e in
        absurd (omega (arith, free_slot x l e))

    go : (b : Bool) → listed x ≡ b → id_in (slot_at x) x ≡ b
    go true l = listed-every (λ x. id_in (slot_at x) x) ids_test x l
    go false l = none l (id_in (slot_at x) x) refl

-- ---- what a slot has for an identifier

pub found-hit : (s x : ℕ) → id_in s x ≡ true → found s x ≡ row_in s
found-hit s x e = rw e

pub found-miss : (s x : ℕ) → id_in s x ≡ false → found s x ≡ 0
found-miss s x e = rw e
