-- `studio_figure_names::first_repeated` meets its contract: the names that the loop has passed differ.
use Rattle.studio_figure_names.proofs.Differing.{Comparing}
use Rattle.studio_figure_names.proofs.first_repeated.Given as goal

abbrev pub invariant-loop-i : goal.invariant-loop-i
invariant-loop-i l = Comparing l.width l.row l.names l.from l.n l.at l.i
