-- The depth of a part by what already stands in the row; and parts for which a row has room.
use Rattle.std.specs.Prelude.{◌≡◌, cond, List, ℕ, ◌+◌, ◌*◌, ◌≤◌, ◌<◌, ◌^◌, eqb, length, get_or}
use Rattle.studio_rules.specs.OwnData.{root}
use Rattle.studio_rules.specs.Layout.{Run}
use Rattle.studio_rules.specs.Gives.{parts}
use Rattle.shared_numbers.specs.Numbers.{long_at}
use Rattle.studio_parts_find.specs.Parts.{PartsAt}

-- ---- one deeper than the father, whose depth is the second of his two numbers

abbrev pub depth_in : List ℕ → ℕ → ℕ
depth_in row f = cond (eqb f root) 0 (get_or row (2 * f + 1) 0 + 1)

abbrev pub depth_in_bytes : List ℕ → ℕ → ℕ
depth_in_bytes row f = cond (eqb f root) 0 (long_at row (8 * f + 4) + 1)

-- the father, if there is one, stands in the row
abbrev pub InRow : List ℕ → ℕ → Type 0
InRow row f = (f ≡ root → ⊥) → (2 * f + 2 ≤ length row) × (get_or row (2 * f + 1) 0 + 1 < 2 ^ 32)

abbrev pub InBytes : List ℕ → ℕ → Type 0
InBytes row f = (f ≡ root → ⊥) → (8 * f + 8 ≤ length row) × (long_at row (8 * f + 4) + 1 < 2 ^ 32)

-- ---- room

-- the children of the figure's B000 stand from `from` to `stop`, and its parts are not more than `room`
abbrev pub Fit : List ℕ → Run → ℕ → ℕ → ℕ → Type 0
Fit s kids from stop room = PartsAt s kids from stop × (length (parts kids) ≤ room)

abbrev pub SomeFit : List ℕ → ℕ → ℕ → ℕ → Type 0
SomeFit s from stop room = (kids : Run) × Fit s kids from stop room
