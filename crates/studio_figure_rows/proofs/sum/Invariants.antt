-- `studio_figure_rows::sum` meets its contract: what was added so far is the sum up to i.
use mathlib.Core.Path.{◌≡◌}
use Prim.Native.Nat.{◌+◌, ◌≤◌}
use Rattle.studio_figure_rows.specs.Rows.{sum_to}
use Rattle.studio_figure_rows.proofs.sum.Given as goal

abbrev pub invariant-loop-i : goal.invariant-loop-i
invariant-loop-i l = (l.sum ≤ l.cap + 4294967295) × (sum_to l.width l.column l.row l.from + l.sum ≡ sum_to l.width l.column l.row l.i)
