use Rattle.std.proofs.lemmas.Result.{err_from_is_err_and}
use mathlib.Core.Path.{sym, ◌∙◌}
use Prim.Native.Nat.{ℕ}
use native.Mathlib.Omega.{arith}
use Rattle.studio_figure_rows.proofs.Answers.{left-all, left-on, left_out, left-none}
use Rattle.studio_figure_rows.proofs.Runs.{sum-next, sum_inside}
use Rattle.studio_figure_objects.specs.Asked.{counts}
use Rattle.studio_figure_objects.proofs.judge_counts.Goals as goal

pub loop-i-init : goal.loop-i-init
loop-i-init c =
    let a = c.args in
    (omega arith, left-all (counts a.objects.now a.groups.now) (λ (k : ℕ). k) a.n)

pub judge_object_counts-requires : goal.judge_object_counts-requires
judge_object_counts-requires c =
    let a = c.args in
    (omega arith, c.loop-i.invariant.0, omega (arith, c.loop-i.invariant.0, sum_inside 5 4 a.objects.now c.loop-i.i a.n (omega arith)))

pub returns-in_err-judge_object_counts : goal.returns-in_err-judge_object_counts
returns-in_err-judge_object_counts c =
    let l = c.loop-i in
    let a = c.args in
    let p = err_from_is_err_and c.from_residual.result c.from_residual.ensures.1 in
    rw (p.1, p.2) (left_out (counts a.objects.now a.groups.now) (λ (k : ℕ). k) a.n l.i (omega arith) l.invariant.1 _ (sym c.in_err-judge_object_counts.was ∙ c.judge_object_counts.ensures))

pub number-group-requires : goal.number-group-requires
number-group-requires c = (omega arith, omega arith)

pub overflow_add-group : goal.overflow_add-group
overflow_add-group c =
    let a = c.args in
    omega (arith, c.loop-i.invariant.0, c.number-group.ensures.0, sum_inside 5 4 a.objects.now c.loop-i.i a.n (omega arith))

pub loop-i-preserved : goal.loop-i-preserved
loop-i-preserved c =
    let l = c.loop-i in
    let a = c.args in (
      omega (arith, l.invariant.0, c.number-group.ensures.0, sum-next 5 4 a.objects.now l.i),
      left-on (counts a.objects.now a.groups.now) (λ (k : ℕ). k) a.n l.i (omega arith) l.invariant.1 (sym c.in_ok-judge_object_counts.was ∙ c.judge_object_counts.ensures),
    )

pub returns : goal.returns
returns c =
    let l = c.loop-i in
    let a = c.args in
    left-none (counts a.objects.now a.groups.now) (λ (k : ℕ). k) a.n l.i (omega arith) l.invariant.1
