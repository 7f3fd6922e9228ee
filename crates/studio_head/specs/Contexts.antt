-- Where the code stands: what its bounds, its row, the bound for what stands inside and its marks say of the rules' walk.
use Rattle.std.specs.Prelude.{◌≡◌, ◌↔◌, true, List, ℕ, ◌≤◌, ◌<◌, ◌^◌, min, length, get_or}
use Rattle.shared_words.specs.Refusals.{limit}
use Rattle.studio_rules.specs.Table.{listed}
use Rattle.studio_rules.specs.OwnData.{root}
use Rattle.studio_rules.specs.Rules.{Parent, few}
use Rattle.studio_row.specs.Packed.{row_of}
use Rattle.studio_own_data.specs.Bounds.{BoundIs}
use Rattle.studio_marks.specs.Marks.{tally_slot, Under}

-- a file within the limit, a bound that is a word, and six marks
pub record Room (end count : ℕ) (s marks : List ℕ) : Type 0 where
  pub ends : end ≤ length s
  pub short : length s ≤ limit
  pub word : count < 2 ^ 16
  pub six : length marks ≡ 6

-- the code's row, bound and marks are those of a run in p, after the children `seen`
pub record Context (p : Parent) (seen : List ℕ) (row word : ℕ) (marks : List ℕ) : Type 0 where
  pub is-listed : listed p.id ≡ true
  pub row_is : row ≡ row_of p.id
  pub bound-is : BoundIs p word
  pub all_under : Under p.id seen
  pub not_twice_lem : few p.id seen ≡ true
  pub marked : (k : ℕ) → k < 5 → (get_or marks k 0 ≡ 0) ↔ (tally_slot k seen ≡ 0)
  pub counted : get_or marks 5 0 ≡ min (tally_slot 5 seen) root
