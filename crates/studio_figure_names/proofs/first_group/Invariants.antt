-- `studio_figure_names::first_group` meets its contract: whatever the test tells, it holds of the groups that the loop has passed.
use mathlib.Core.Path.{◌≡◌}
use Prim.Native.Nat.{ℕ, ◌+◌, ◌≤◌}
use mathlib.Core.Bool.{Bool}
use mathlib.Core.List.{List}
use Rattle.studio_figure_rows.specs.Rows.{sum_to}
use Rattle.studio_figure_names.specs.Names.{Tells}
use Rattle.studio_figure_names.proofs.Groups.{Going}
use Rattle.studio_figure_names.proofs.first_group.Given as goal

abbrev pub invariant-loop-i : goal.invariant-loop-i
invariant-loop-i g l =
    (l.i ≤ l.n) × (l.at ≡ l.from + sum_to 2 0 l.groups l.i) ×
    ((names : List ℕ) (good : List ℕ → Bool) → Tells (goal.F-post g l.is_good) (l.from + sum_to 2 0 l.groups l.n) names good → Going good names l.groups l.from l.n l.at l.i)
