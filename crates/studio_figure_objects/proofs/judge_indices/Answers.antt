use Rattle.std.proofs.lemmas.Result.{err_from_is_err_and}
use mathlib.Core.Path.{sym, ◌∙◌}
use Prim.Native.Nat.{ℕ, ◌+◌}
use native.Mathlib.Omega.{arith}
use Rattle.studio_figure_rows.specs.Rows.{entry, sum_to}
use Rattle.studio_figure_rows.proofs.Answers.{left-all, left-on, left_out, left-none}
use Rattle.studio_figure_rows.proofs.Runs.{sum-next, sum_inside, sum-up, capped-under}
use Rattle.studio_figure_objects.specs.Asked.{indices}
use Rattle.studio_figure_objects.proofs.judge_indices.Goals as goal

pub loop-i-init : goal.loop-i-init
loop-i-init c =
    let a = c.args in
    (omega arith, omega arith, omega arith, left-all (indices a.objects.now a.corners.now a.groups.now a.faces.now) (λ (k : ℕ). k) a.n)

pub judge_object_indices-requires : goal.judge_object_indices-requires
judge_object_indices-requires c =
    let a = c.args in
    let l = c.loop-i in
    let s = sum_inside 5 4 a.objects.now l.i a.n (omega arith) in
    let t = sum_inside 5 2 a.objects.now l.i a.n (omega arith) in
    let u = sum-up 2 1 a.groups.now (l.group + entry 5 4 a.objects.now l.i) (sum_to 5 4 a.objects.now a.n) (omega (arith, l.invariant.1)) in
    record {
      i_in_bounds = (omega arith, l.invariant.0, omega (arith, l.invariant.0));
      group_value = (l.invariant.1, omega (arith, l.invariant.1));
      face_value = (l.invariant.2, omega arith);
    }

pub returns-in_err-judge_object_indices : goal.returns-in_err-judge_object_indices
returns-in_err-judge_object_indices c =
    let l = c.loop-i in
    let a = c.args in
    let p = err_from_is_err_and c.from_residual.result c.from_residual.ensures.1 in
    rw (p.1, p.2) (left_out (indices a.objects.now a.corners.now a.groups.now a.faces.now) (λ (k : ℕ). k) a.n l.i (omega arith) l.invariant.3 _ (sym c.in_err-judge_object_indices.was ∙ c.judge_object_indices.ensures))

pub number-at-requires : goal.number-at-requires
number-at-requires c = (omega arith, omega arith)

pub overflow_add-at : goal.overflow_add-at
overflow_add-at c =
    let a = c.args in
    omega (arith, c.loop-i.invariant.0, c.number-at.ensures.0, sum_inside 5 2 a.objects.now c.loop-i.i a.n (omega arith))

pub number-requires : goal.number-requires
number-requires c = (omega arith, omega arith)

pub overflow_add-next : goal.overflow_add-next
overflow_add-next c =
    let a = c.args in
    omega (arith, c.loop-i.invariant.1, c.number.ensures.0, sum_inside 5 4 a.objects.now c.loop-i.i a.n (omega arith))

pub sum-face-requires : goal.sum-face-requires
sum-face-requires c =
    let a = c.args in
    (omega arith, omega arith, omega (arith, c.loop-i.invariant.1, c.number.ensures.0, sum_inside 5 4 a.objects.now c.loop-i.i a.n (omega arith)), omega arith)

pub overflow_add-face : goal.overflow_add-face
overflow_add-face c =
    let a = c.args in
    let l = c.loop-i in
    let s = sum_inside 5 4 a.objects.now l.i a.n (omega arith) in
    let u = sum-up 2 1 a.groups.now (l.group + c.number.result) (sum_to 5 4 a.objects.now a.n) (omega (arith, l.invariant.1, c.number.ensures.0)) in
    let k = capped-under _ _ _ _ c.sum-face.ensures (omega arith) in
    omega (arith, l.invariant.2)

pub loop-i-preserved : goal.loop-i-preserved
loop-i-preserved c =
    let a = c.args in
    let l = c.loop-i in
    let s = sum_inside 5 4 a.objects.now l.i a.n (omega arith) in
    let u = sum-up 2 1 a.groups.now (l.group + c.number.result) (sum_to 5 4 a.objects.now a.n) (omega (arith, l.invariant.1, c.number.ensures.0)) in
    let k = capped-under _ _ _ _ c.sum-face.ensures (omega arith) in (
      omega (arith, l.invariant.0, c.number-at.ensures.0, sum-next 5 2 a.objects.now l.i),
      omega (arith, l.invariant.1, c.number.ensures.0, sum-next 5 4 a.objects.now l.i),
      omega (arith, l.invariant.2),
      left-on (indices a.objects.now a.corners.now a.groups.now a.faces.now) (λ (k : ℕ). k) a.n l.i (omega arith) l.invariant.3 (sym c.in_ok-judge_object_indices.was ∙ c.judge_object_indices.ensures),
    )

pub returns : goal.returns
returns c =
    let l = c.loop-i in
    let a = c.args in
    left-none (indices a.objects.now a.corners.now a.groups.now a.faces.now) (λ (k : ℕ). k) a.n l.i (omega arith) l.invariant.3
