-- `studio_figure_objects::judge_floats` meets its contract: what is left to judge is judged as all of it.
use mathlib.Core.Path.{◌≡◌}
use Prim.Native.Nat.{ℕ}
use Rattle.studio_figure_rows.specs.Rows.{sum_to}
use Rattle.studio_figure_rows.proofs.Answers.{Left}
use Rattle.studio_figure_objects.specs.Asked.{floats}
use Rattle.studio_figure_objects.proofs.judge_floats.Given as goal

abbrev pub invariant-loop-i : goal.invariant-loop-i
invariant-loop-i l = (l.at ≡ sum_to 5 1 l.objects l.i) × Left (floats l.objects l.vertices) (λ (k : ℕ). k) l.n l.i
