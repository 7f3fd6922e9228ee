-- `studio_figure_objects::judge_group_counts` meets its contract: the groups that the loop has passed have few faces.
use Rattle.studio_figure_rows.proofs.Answers.{Left}
use Rattle.studio_figure_objects.specs.Asked.{from, group_count}
use Rattle.studio_figure_objects.proofs.judge_group_counts.Given as goal

abbrev pub invariant-loop-i : goal.invariant-loop-i
invariant-loop-i l = Left (group_count l.groups) (from l.first) l.n l.i
