-- `studio_figure_names::is_one_of` meets its contract: the name is among all exactly when it is among those left.
use Rattle.studio_figure_rows.specs.Rows.{part}
use Rattle.studio_figure_names.proofs.Differing.{Looking}
use Rattle.studio_figure_names.proofs.is_one_of.Given as goal

abbrev pub invariant-loop-i : goal.invariant-loop-i
invariant-loop-i l = Looking l.width l.row l.names l.from l.n (part l.at l.len l.names) l.next l.i
