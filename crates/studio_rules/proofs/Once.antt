-- At most one: the identifiers seen so far, and those of the run that follows.
-- `few` asks only how often each group occurs, so the order of the identifiers does not matter.
use mathlib.Core.Path.{◌≡◌, refl}
use Prim.Native.Nat.{ℕ, ◌+◌, ◌≤◌}
use native.Mathlib.Omega.{arith}
use mathlib.Core.Bool.{true}
use mathlib.Core.List.{List, [], ◌∷◌, ◌++◌, append-nil}
use lib.Dec.{leb}
use borrow.Author.Tests.{leb-true, le-leb}
use Rattle.shared_words.specs.Lists.{every}
use Rattle.studio_rules.specs.Table.{at_most_one_ids, limits}
use Rattle.studio_rules.specs.Layout.{Run, end, skip, known, identifiers}
use Rattle.studio_rules.specs.Rules.{Parent, tally, few, Obeys}
use Rattle.studio_rules.specs.Theorems.{AtMostOne}
use Rattle.shared_words.proofs.Bools.{and_parts, every_weaker}

pub tally_append : (g xs ys : List ℕ) → tally g (xs ++ ys) ≡ tally g xs + tally g ys
tally_append g [] ys = omega arith
tally_append g (x ∷ xs) ys = omega (arith, tally_append g xs ys)

-- fewer of each group
few_fewer : (container : ℕ) (xs ys : List ℕ) → ((g : List ℕ) → tally g xs ≤ tally g ys) → few container ys ≡ true → few container xs ≡ true
few_fewer container xs ys h =
    every_weaker (λ g. leb (tally g ys) 1) (λ g. leb (tally g xs) 1) (limits container)
    (λ g e. let l = leb-true (tally g ys) 1 e in let k = h g in le-leb (tally g xs) 1 (omega arith))

pub few_nil : (container : ℕ) → few container [] ≡ true
unfolding every
few_nil container = go (limits container)
  where
    go : (gs : List (List ℕ)) → every (λ (g : List ℕ). leb (tally g []) 1) gs ≡ true
    go [] = refl
    go (g ∷ gs) = go gs

-- one more seen, and the rest
few-seen : (container id : ℕ) (seen ids : List ℕ) → few container ((id ∷ seen) ++ ids) ≡ true → few container (seen ++ (id ∷ ids)) ≡ true
few-seen container id seen ids =
    few_fewer container (seen ++ (id ∷ ids)) ((id ∷ seen) ++ ids) λ g. omega (arith, tally_append g seen (id ∷ ids), tally_append g seen ids)

-- each with those before it, so all of them together
pub obeys-few : (p : Parent) (seen : List ℕ) (t : Run) → Obeys p seen t → few p.id seen ≡ true → few p.id (seen ++ identifiers t) ≡ true
obeys-few p seen end h f = rw append-nil f
obeys-few p seen (skip id body rest) h f = obeys-few p seen rest h.1 f
obeys-few p seen (known id own kids rest) h f = few-seen p.id id seen (identifiers rest) (obeys-few p (id ∷ seen) rest h.3 h.0.not_twice_lem)

pub at_most_one : AtMostOne
at_most_one q kids h = obeys-few q [] kids h (few_nil q.id)

-- 4D4D has one 3D3D
pub one-scene : (ids : List ℕ) → few 0x4D4D ids ≡ true → tally (0x3D3D ∷ []) ids ≤ 1
unfolding limits at_most_one_ids every
one-scene ids h = leb-true _ _ (and_parts (leb (tally (0x3D3D ∷ []) ids) 1) _ (and_parts (leb (tally (0x0002 ∷ []) ids) 1) _ h).1).0
