-- `studio_figure_names::judge_names` meets its contract: what is left to judge is judged as all of it.
use mathlib.Core.Path.{◌≡◌}
use Prim.Native.Nat.{◌+◌}
use Rattle.studio_figure_rows.specs.Rows.{sum_to, name_at}
use Rattle.studio_figure_rows.proofs.Answers.{Left}
use Rattle.studio_figure_names.specs.Names.{name_asked}
use Rattle.studio_figure_names.proofs.judge_names.Given as goal

abbrev pub invariant-loop-i : goal.invariant-loop-i
invariant-loop-i l = (l.at ≡ l.from + sum_to l.width 0 l.row l.i) × Left (name_asked l.question) (name_at l.width l.row l.names l.from) l.n l.i
