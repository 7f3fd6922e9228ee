-- `studio_figure_objects::judge_indices` meets its contract: what is left to judge is judged as all of it.
use mathlib.Core.Path.{◌≡◌}
use Prim.Native.Nat.{ℕ}
use Rattle.studio_figure_rows.specs.Rows.{sum_to}
use Rattle.studio_figure_rows.proofs.Answers.{Left}
use Rattle.studio_figure_objects.specs.Asked.{indices}
use Rattle.studio_figure_objects.proofs.judge_indices.Given as goal

abbrev pub invariant-loop-i : goal.invariant-loop-i
invariant-loop-i l = (l.at ≡ sum_to 5 2 l.objects l.i) × (l.group ≡ sum_to 5 4 l.objects l.i) × (l.face ≡ sum_to 2 1 l.groups l.group) × Left (indices l.objects l.corners l.groups l.faces) (λ (k : ℕ). k) l.n l.i
