use Rattle.std.proofs.lemmas.Result.{err_from_is_err_and}
use mathlib.Core.Path.{◌≡◌, sym, ap, ◌∙◌}
use Prim.Native.Nat.{ℕ, ◌+◌}
use native.Mathlib.Omega.{arith}
use mathlib.Core.List.{List}
use Rattle.shared_words.specs.Conditions.{answered}
use Rattle.studio_figure_rows.proofs.Answers.{left-all, left-on, left_out, left-none}
use Rattle.studio_figure_rows.proofs.Runs.{sum-next, sum_inside, part-is}
use Rattle.studio_figure_objects.specs.Asked.{from, all_below, group_index}
use Rattle.studio_figure_objects.proofs.judge_group_indices.Goals as goal

pub loop-i-init : goal.loop-i-init
loop-i-init c =
    let a = c.args in
    let z : a.first + 0 ≡ a.first = omega arith in
    (rw z c.requires.1, left-all (group_index a.groups.now a.faces.now a.f) (from a.first) a.n)

pub number-requires : goal.number-requires
number-requires c = (omega arith, omega arith)

pub overflow_add-end : goal.overflow_add-end
overflow_add-end c =
    let a = c.args in
    omega (arith, c.loop-i.invariant.0, c.number.ensures.0, sum_inside 2 1 a.groups.now (a.first + c.loop-i.i) (a.first + a.n) (omega arith))

pub offset_bounds-faces-at : goal.offset_bounds-faces-at
offset_bounds-faces-at c =
    let a = c.args in
    omega (arith, c.loop-i.invariant.0, c.number.ensures.0, sum_inside 2 1 a.groups.now (a.first + c.loop-i.i) (a.first + a.n) (omega arith))

pub slice_bounds-judge_below-end : goal.slice_bounds-judge_below-end
slice_bounds-judge_below-end c =
    let a = c.args in
    omega (arith, c.loop-i.invariant.0, c.number.ensures.0, sum_inside 2 1 a.groups.now (a.first + c.loop-i.i) (a.first + a.n) (omega arith))

pub returns-in_err-judge_below : goal.returns-in_err-judge_below
returns-in_err-judge_below c =
    let l = c.loop-i in
    let a = c.args in
    let e = ap (λ (row : List ℕ). answered (all_below a.f row)) (part-is a.faces.now l.at c.number.result _ _ l.invariant.0 c.number.ensures.0) in
    let p = err_from_is_err_and c.from_residual.result c.from_residual.ensures.1 in
    rw (p.1, p.2) (left_out (group_index a.groups.now a.faces.now a.f) (from a.first) a.n l.i (omega arith) l.invariant.1 _ (sym c.in_err-judge_below.was ∙ c.judge_below.ensures ∙ e))

pub loop-i-preserved : goal.loop-i-preserved
loop-i-preserved c =
    let l = c.loop-i in
    let a = c.args in
    let e = ap (λ (row : List ℕ). answered (all_below a.f row)) (part-is a.faces.now l.at c.number.result _ _ l.invariant.0 c.number.ensures.0) in
    let z : a.first + (l.i + 1) ≡ a.first + l.i + 1 = omega arith in (
      rw z (omega (arith, l.invariant.0, c.number.ensures.0, sum-next 2 1 a.groups.now (a.first + l.i))),
      left-on (group_index a.groups.now a.faces.now a.f) (from a.first) a.n l.i (omega arith) l.invariant.1 (sym c.in_ok-judge_below.was ∙ c.judge_below.ensures ∙ e),
    )

pub returns : goal.returns
returns c =
    let l = c.loop-i in
    let a = c.args in
    left-none (group_index a.groups.now a.faces.now a.f) (from a.first) a.n l.i (omega arith) l.invariant.1
