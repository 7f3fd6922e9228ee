-- A property of the table: no group, of "at most one" or of "at least one", speaks of the children of 3D3D. So each of
-- them is judged by itself: none is one too many, and none has to be there.
use Rattle.std.specs.Prelude.{◌≡◌, ℕ, Bool, true, not, [], eqb}
use Rattle.shared_words.specs.Lists.{every}
use Rattle.studio_rules.specs.Table.{Group, at_most_one_ids, at_least_one_ids, limits, needs}

-- a group speaks of the children of other chunks only
abbrev pub elsewhere : ℕ → Group → Bool
elsewhere p g = not (eqb p g.container)

-- THE TEST, computed over all groups
pub record GroupsElsewhere (p : ℕ) : Type 0 where
  pub at_most_one : every (elsewhere p) at_most_one_ids ≡ true
  pub at_least_one : every (elsewhere p) at_least_one_ids ≡ true

-- the same, of the table as it is read
pub record Ungrouped (p : ℕ) : Type 0 where
  pub no-limits : limits p ≡ []
  pub no-needs : needs p ≡ []
