-- `studio_figure_names::gather` meets its contract: the names that the loop has passed differ, and the tree holds them.
use mathlib.Core.Path.{◌≡◌}
use Prim.Native.Nat.{◌+◌}
use lib.ListN.{length}
use Rattle.studio_figure_rows.specs.Rows.{sum_to, name_at}
use Rattle.studio_figure_names.proofs.Gathering.{Gathering}
use Rattle.studio_figure_names.proofs.gather.Given as goal

abbrev pub invariant-loop-i : goal.invariant-loop-i
invariant-loop-i l = Gathering l.names (name_at l.width l.row l.names l.from) l.n l.nodes l.i × (l.at ≡ l.from + sum_to l.width 0 l.row l.i) × (length l.nodes ≡ length l.initial.nodes)
