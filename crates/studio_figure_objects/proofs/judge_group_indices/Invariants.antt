-- `studio_figure_objects::judge_group_indices` meets its contract: what is left to judge is judged as all of it.
use mathlib.Core.Path.{◌≡◌}
use Prim.Native.Nat.{◌+◌}
use Rattle.studio_figure_rows.specs.Rows.{sum_to}
use Rattle.studio_figure_rows.proofs.Answers.{Left}
use Rattle.studio_figure_objects.specs.Asked.{from, group_index}
use Rattle.studio_figure_objects.proofs.judge_group_indices.Given as goal

abbrev pub invariant-loop-i : goal.invariant-loop-i
invariant-loop-i l = (l.at ≡ sum_to 2 1 l.groups (l.first + l.i)) × Left (group_index l.groups l.faces l.f) (from l.first) l.n l.i
