-- The order of a B002: only these are of no group in a B000, so that the sixth mark counts them.
use mathlib.Core.Path.{◌≡◌, refl, ap, ◌∙◌, subst}
use mathlib.Core.Bool.{Bool, true, false, not, ◌||◌, cond, false≢true}
use mathlib.Core.List.{List, [], ◌∷◌}
use Prim.Native.Nat.{ℕ, ◌+◌, ◌<◌, min}
use native.Mathlib.Omega.{arith}
use lib.Dec.{eqb}
use lib.ListN.{get_or}
use borrow.Author.Tests.{eqb-true, ne_eqb}
use Rattle.shared_words.specs.Bytes.{le}
use Rattle.shared_words.specs.Lists.{every, among}
use Rattle.shared_words.proofs.Bools.{or_second}
use Rattle.studio_rules.specs.Table.{rows, row_of as table_row, at_most_one_ids, limits, listed, under}
use Rattle.studio_rules.specs.OwnData.{count, root}
use Rattle.studio_rules.specs.Rules.{Parent, inside, tally}
use Rattle.studio_rules.proofs.Rows.{every_id, listed-every, under-listed}
use Rattle.studio_row.specs.Packed.{places, row_of, slot_of}
use Rattle.studio_row.proofs.Facts.{same, same-is}
use Rattle.studio_own_size.specs.Own.{CountIs}
use Rattle.studio_own_data.specs.Bounds.{BoundIs}
use Rattle.studio_own_data.proofs.Conditions.{some-around}
use Rattle.studio_marks.specs.Marks.{tally_slot, Under}
use Rattle.studio_head.specs.Heads.{OrderIs}
use Rattle.studio_head.specs.Contexts.{Context}

-- only a B000 holds a B002
holds_parts : (q : ℕ) → under q 0xB002 ≡ true → q ≡ 0xB000
unfolding rows under
holds_parts q u = go (eqb q 0xB000) refl u
  where
    go : (b : Bool) → eqb q 0xB000 ≡ b → (b || false) ≡ true → q ≡ 0xB000
    go true e h = eqb-true q 0xB000 e
    go false e h = absurd (false≢true h)

slot_test : every_id (λ x. not (under 0xB000 x) || same (eqb (slot_of x) 5) (eqb x 0xB002)) rows ≡ true
unfolding rows every under places limits at_most_one_ids row_of
slot_test = refl

no-group : (x : ℕ) → under 0xB000 x ≡ true → eqb (slot_of x) 5 ≡ eqb x 0xB002
no-group x u =
    same-is _ _
    (or_second (not (under 0xB000 x)) _ (listed-every (λ x. not (under 0xB000 x) || same (eqb (slot_of x) 5) (eqb x 0xB002)) slot_test x (under-listed 0xB000 x u)) (rw u))

tally-parts : (xs : List ℕ) → Under 0xB000 xs → tally_slot 5 xs ≡ tally (0xB002 ∷ []) xs
tally-parts [] u = refl
tally-parts (x ∷ xs) u = rw (no-group x u.0, tally-parts xs u.1) (ap (λ (n : ℕ). n + tally (0xB002 ∷ []) xs) (go (eqb x 0xB002)))
  where
    go : (b : Bool) → ◌≡◌ {A = ℕ} (cond b 1 0) (cond (b || false) 1 0)
    go true = refl
    go false = refl

pub order_is : (p : Parent) (seen : List ℕ) (parent word : ℕ) (ms : List ℕ) → Context p seen parent word ms → (id : ℕ) → under p.id id ≡ true →
    (order : ℕ) → order ≡ get_or ms 5 0 → OrderIs id seen order
order_is p seen parent word ms k id u order e i =
    let q : p.id ≡ 0xB000 = holds_parts p.id (subst (λ (x : ℕ). under p.id x ≡ true) i u) in
    e ∙ k.counted ∙ ap (λ (n : ℕ). min n root) (tally-parts seen (subst (λ (x : ℕ). Under x seen) q k.all_under))

-- ---- the bound for what stands inside

pub bound-of-part : (p : Parent) (seen own : List ℕ) (id order : ℕ) → id ≡ 0xB002 → OrderIs id seen order → BoundIs (inside p seen id own) order
bound-of-part p seen own id order i o = record { is = o i ∙ rw i; small = omega (arith, o i) }

pub bound-of_other : (p : Parent) (seen own : List ℕ) (id n : ℕ) → (id ≡ 0xB002 → ⊥) → CountIs own n → BoundIs (inside p seen id own) n
bound-of_other p seen own id n ne c = record { is = c.is ∙ rw (ne_eqb id 0xB002 ne); small = c.small }

-- ---- some chunk around

-- a listed chunk may stand in some chunk
abbrev first : List ℕ → ℕ
first [] = 0
first (x ∷ xs) = x

parents_test : every_id (λ x. among (first (table_row x rows).parents) (table_row x rows).parents) rows ≡ true
unfolding rows every
parents_test = refl

some-parent : (id : ℕ) → listed id ≡ true → under (first (table_row id rows).parents) id ≡ true
unfolding under
some-parent id l = listed-every (λ x. among (first (table_row x rows).parents) (table_row x rows).parents) parents_test id l

-- and one of any bound
pub record Somewhere (id n : ℕ) : Type 0 where
  pub p : Parent
  pub place : under p.id id ≡ true
  pub bound : BoundIs p n

pub somewhere : (id n : ℕ) → listed id ≡ true → n < 65536 → Somewhere id n
somewhere id n l h = record {
  p = record { id = first (table_row id rows).parents; own = le 2 n; order = n; version = 0 };
  place = some-parent id l;
  bound = record { is = go (eqb (first (table_row id rows).parents) 0xB002); small = h };
}
  where
    go : (b : Bool) → n ≡ cond b (min n root) (count (le 2 n))
    go true = omega arith
    go false = (some-around n h).is
