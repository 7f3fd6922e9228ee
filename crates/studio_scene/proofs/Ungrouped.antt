-- No group speaks of the children of 3D3D: the test over all groups, and what it says of the table as it is read.
use mathlib.Core.Path.{◌≡◌, refl}
use Prim.Native.Nat.{ℕ}
use mathlib.Core.Bool.{Bool, true, false, not, cond, false≢true}
use mathlib.Core.List.{List, [], ◌∷◌}
use lib.Dec.{eqb}
use Rattle.shared_words.specs.Lists.{every}
use Rattle.studio_rules.specs.Table.{Group, at_most_one_ids, at_least_one_ids, groups_of, limits, needs}
use Rattle.shared_words.proofs.Bools.{and_parts}
use Rattle.studio_scene.specs.Ungrouped.{elsewhere, GroupsElsewhere, Ungrouped}

pub groups_elsewhere : GroupsElsewhere 0x3D3D
unfolding every at_most_one_ids at_least_one_ids
groups_elsewhere = record { at_most_one = refl; at_least_one = refl }

no_groups : (p : ℕ) (gs : List Group) → every (elsewhere p) gs ≡ true → groups_of p gs ≡ []
unfolding every
no_groups p [] h = refl
no_groups p (g ∷ gs) h = let k = and_parts (elsewhere p g) (every (elsewhere p) gs) h in go (eqb p g.container) k.0 (no_groups p gs k.1)
  where
    go : (e : Bool) → not e ≡ true → groups_of p gs ≡ [] → cond e (g.ids ∷ groups_of p gs) (groups_of p gs) ≡ []
    go true k ih = absurd (false≢true k)
    go false k ih = ih

pub read : (p : ℕ) → GroupsElsewhere p → Ungrouped p
unfolding limits needs
read p h = record { no-limits = no_groups p at_most_one_ids h.at_most_one; no-needs = no_groups p at_least_one_ids h.at_least_one }

pub ungrouped : Ungrouped 0x3D3D
ungrouped = read 0x3D3D groups_elsewhere
