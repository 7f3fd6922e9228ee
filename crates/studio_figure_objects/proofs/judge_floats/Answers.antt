use Rattle.std.proofs.lemmas.Result.{err_from_is_err_and}
use mathlib.Core.Path.{sym, ap, ◌∙◌}
use Prim.Native.Nat.{ℕ}
use native.Mathlib.Omega.{arith}
use mathlib.Core.List.{List}
use lib.Ieee.{Float}
use Rattle.shared_words.specs.Conditions.{answered}
use Rattle.studio_figure_rows.proofs.Answers.{left-all, left-on, left_out, left-none}
use Rattle.studio_figure_rows.proofs.Runs.{sum-next, sum_inside, part-is}
use Rattle.studio_figure_objects.specs.Asked.{all_finite, floats}
use Rattle.studio_figure_objects.proofs.judge_floats.Goals as goal

pub loop-i-init : goal.loop-i-init
loop-i-init c =
    let a = c.args in
    (omega arith, left-all (floats a.objects.now a.vertices.now) (λ (k : ℕ). k) a.n)

pub number-requires : goal.number-requires
number-requires c = (omega arith, omega arith)

pub overflow_add-end : goal.overflow_add-end
overflow_add-end c =
    let a = c.args in
    omega (arith, c.loop-i.invariant.0, c.number.ensures.0, sum_inside 5 1 a.objects.now c.loop-i.i a.n (omega arith))

pub offset_bounds-vertices-at : goal.offset_bounds-vertices-at
offset_bounds-vertices-at c =
    let a = c.args in
    omega (arith, c.loop-i.invariant.0, c.number.ensures.0, sum_inside 5 1 a.objects.now c.loop-i.i a.n (omega arith))

pub slice_bounds-judge_finite-end : goal.slice_bounds-judge_finite-end
slice_bounds-judge_finite-end c =
    let a = c.args in
    omega (arith, c.loop-i.invariant.0, c.number.ensures.0, sum_inside 5 1 a.objects.now c.loop-i.i a.n (omega arith))

pub returns-in_err-judge_finite : goal.returns-in_err-judge_finite
returns-in_err-judge_finite c =
    let l = c.loop-i in
    let a = c.args in
    let e = ap (λ (row : List Float). answered (all_finite row)) (part-is a.vertices.now l.at c.number.result _ _ l.invariant.0 c.number.ensures.0) in
    let p = err_from_is_err_and c.from_residual.result c.from_residual.ensures.1 in
    rw (p.1, p.2) (left_out (floats a.objects.now a.vertices.now) (λ (k : ℕ). k) a.n l.i (omega arith) l.invariant.1 _ (sym c.in_err-judge_finite.was ∙ c.judge_finite.ensures ∙ e))

pub loop-i-preserved : goal.loop-i-preserved
loop-i-preserved c =
    let l = c.loop-i in
    let a = c.args in
    let e = ap (λ (row : List Float). answered (all_finite row)) (part-is a.vertices.now l.at c.number.result _ _ l.invariant.0 c.number.ensures.0) in (
      omega (arith, l.invariant.0, c.number.ensures.0, sum-next 5 1 a.objects.now l.i),
      left-on (floats a.objects.now a.vertices.now) (λ (k : ℕ). k) a.n l.i (omega arith) l.invariant.1 (sym c.in_ok-judge_finite.was ∙ c.judge_finite.ensures ∙ e),
    )

pub returns : goal.returns
returns c =
    let l = c.loop-i in
    let a = c.args in
    left-none (floats a.objects.now a.vertices.now) (λ (k : ℕ). k) a.n l.i (omega arith) l.invariant.1
