-- The parts of a figure, one after another: whom the next hangs on, and how deep.
use mathlib.Core.Path.{◌≡◌, refl, ap, ◌∙◌}
use mathlib.Core.Logic.{◌⊎◌, inl, inr}
use mathlib.Core.List.{List, [], ◌∷◌, ◌++◌}
use mathlib.Core.Option.{some}
use Prim.Native.Nat.{ℕ, zero, suc, ◌≤◌, ◌<◌}
use native.Mathlib.Omega.{arith}
use lib.ListN.{length, get_elem?}
use Rattle.studio_rules.specs.OwnData.{root}
use Rattle.studio_rules.specs.Layout.{Run}
use Rattle.studio_rules.specs.Rules.{Meets}
use Rattle.studio_rules.specs.Gives.{Part, fathers, part_of, parts_from, parts}
use Rattle.studio_rules.specs.Theorems.{Hangs}
use Rattle.studio_rules.proofs.At.{there, at_front, at_back}
use Rattle.studio_rules.proofs.Parts.{parts_hang}

from_append : (ps : List Part) (fs gs : List ℕ) → parts_from ps (fs ++ gs) ≡ parts_from (parts_from ps fs) gs
from_append ps [] gs = refl
from_append ps (f ∷ fs) gs = from_append (ps ++ (part_of ps f ∷ [])) fs gs

pub from-one-more : (fs : List ℕ) (f : ℕ) → parts_from [] (fs ++ (f ∷ [])) ≡ parts_from [] fs ++ (part_of (parts_from [] fs) f ∷ [])
from-one-more fs f = from_append [] fs (f ∷ [])

from_front : (ps : List Part) (fs : List ℕ) (i : ℕ) (q : Part) → get_elem? ps i ≡ some q → get_elem? (parts_from ps fs) i ≡ some q
from_front ps [] i q h = h
from_front ps (f ∷ fs) i q h = from_front (ps ++ (part_of ps f ∷ [])) fs i q (at_front ps (part_of ps f ∷ []) i q h)

-- a part is at most as deep as its number says
shallow : (ps : List Part) → ((i : ℕ) (r : Part) → get_elem? ps i ≡ some r → Hangs ps i r) → (n i : ℕ) → i < n → (r : Part) → get_elem? ps i ≡ some r → r.depth ≤ i
shallow ps a zero i l r g = absurd (omega arith)
shallow ps a (suc n) i l r g = go (a i r g) (λ j k q e. shallow ps a n j k q e)
  where
    go : Hangs ps i r → ((j : ℕ) → j < n → (q : Part) → get_elem? ps j ≡ some q → q.depth ≤ j) → r.depth ≤ i
    go (inl h) ih = omega (arith, h.1)
    go (inr h) ih = let q = h.2 in omega (arith, h.1, q.2, ih r.father (omega (arith, h.1)) q.0 q.1)

-- the next part hangs on none, or on one that is there, which is not deeper than its number
pub record OnEarlier (ps : List Part) (f : ℕ) : Type 0 where
  pub earlier : f < length ps
  pub its : Part
  pub is : get_elem? ps f ≡ some its
  pub shallow : its.depth ≤ f

module _ (s : List ℕ) (kids : Run) (m : Meets s kids) (fs gs : List ℕ) (f : ℕ) (split : fathers kids ≡ fs ++ (f ∷ gs)) where
  ps : List Part
  ps = parts_from [] fs

  all-parts : parts kids ≡ parts_from (parts_from [] fs ++ (part_of (parts_from [] fs) f ∷ [])) gs
  all-parts = ap (parts_from []) split ∙ from_append [] fs (f ∷ gs)

  pub next_hangs : (f ≡ root) ⊎ OnEarlier (parts_from [] fs) f
  unfolding ps
  next_hangs = go (parts_hang s kids m (length ps) (part_of ps f) (rw all-parts (from_front (ps ++ (part_of ps f ∷ [])) gs (length ps) (part_of ps f) (at_back ps (part_of ps f ∷ []) (length ps) 0 (omega arith)))))
    where
      go : Hangs (parts kids) (length (parts_from [] fs)) (part_of (parts_from [] fs) f) → (f ≡ root) ⊎ OnEarlier (parts_from [] fs) f
      go (inl h) = inl h.0
      go (inr h) =
          let q = there (parts_from [] fs) f h.1 in
          let g : get_elem? (parts kids) f ≡ some q.0 = rw all-parts (from_front (parts_from [] fs ++ (part_of (parts_from [] fs) f ∷ [])) gs f q.0 (at_front (parts_from [] fs) (part_of (parts_from [] fs) f ∷ []) f q.0 q.1)) in
          inr record { earlier = h.1; its = q.0; is = q.1; shallow = shallow (parts kids) (parts_hang s kids m) (suc f) f (omega arith) q.0 g }
