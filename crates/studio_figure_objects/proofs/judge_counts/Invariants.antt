-- `studio_figure_objects::judge_counts` meets its contract: what is left to judge is judged as all of it.
use mathlib.Core.Path.{◌≡◌}
use Prim.Native.Nat.{ℕ}
use Rattle.studio_figure_rows.specs.Rows.{sum_to}
use Rattle.studio_figure_rows.proofs.Answers.{Left}
use Rattle.studio_figure_objects.specs.Asked.{counts}
use Rattle.studio_figure_objects.proofs.judge_counts.Given as goal

abbrev pub invariant-loop-i : goal.invariant-loop-i
invariant-loop-i l = (l.group ≡ sum_to 5 4 l.objects l.i) × Left (counts l.objects l.groups) (λ (k : ℕ). k) l.n l.i
