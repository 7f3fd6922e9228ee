use Rattle.std.proofs.lemmas.Result.{err_from_is_err_and}
use mathlib.Core.Path.{sym, ap, ◌∙◌}
use Prim.Native.Nat.{ℕ}
use native.Mathlib.Omega.{arith}
use mathlib.Core.List.{List}
use Rattle.shared_words.specs.Conditions.{answered}
use Rattle.studio_figure_rows.specs.Rows.{name_at}
use Rattle.studio_figure_rows.proofs.Answers.{left-all, left-on, left_out, left-none}
use Rattle.studio_figure_rows.proofs.Runs.{stride, sum-next, sum_inside, part-is}
use Rattle.studio_figure_names.specs.Names.{name_asked}
use Rattle.studio_figure_names.proofs.judge_names.Goals as goal

pub loop-i-init : goal.loop-i-init
loop-i-init c =
    let a = c.args in
    (omega arith, left-all (name_asked a.question) (name_at a.width a.row.now a.names.now a.from) a.n)

pub number-requires : goal.number-requires
number-requires c =
    let a = c.args in
    (omega arith, omega (arith, stride a.width c.loop-i.i a.n (omega arith)))

pub overflow_add-end : goal.overflow_add-end
overflow_add-end c =
    let a = c.args in
    omega (arith, c.number.ensures.0, sum_inside a.width 0 a.row.now c.loop-i.i a.n (omega arith))

pub slice_bounds-judge_name-end : goal.slice_bounds-judge_name-end
slice_bounds-judge_name-end c =
    let a = c.args in
    omega (arith, c.number.ensures.0, sum_inside a.width 0 a.row.now c.loop-i.i a.n (omega arith))

pub returns-in_err-judge_name : goal.returns-in_err-judge_name
returns-in_err-judge_name c =
    let l = c.loop-i in
    let a = c.args in
    let e = ap (λ (name : List ℕ). answered (name_asked a.question name)) (part-is a.names.now l.at c.number.result _ _ l.invariant.0 c.number.ensures.0) in
    let p = err_from_is_err_and c.from_residual.result c.from_residual.ensures.1 in
    rw (p.1, p.2) (left_out (name_asked a.question) (name_at a.width a.row.now a.names.now a.from) a.n l.i (omega arith) l.invariant.1 _ (sym c.in_err-judge_name.was ∙ c.judge_name.ensures ∙ e))

pub loop-i-preserved : goal.loop-i-preserved
loop-i-preserved c =
    let l = c.loop-i in
    let a = c.args in
    let e = ap (λ (name : List ℕ). answered (name_asked a.question name)) (part-is a.names.now l.at c.number.result _ _ l.invariant.0 c.number.ensures.0) in (
      omega (arith, l.invariant.0, c.number.ensures.0, sum-next a.width 0 a.row.now l.i),
      left-on (name_asked a.question) (name_at a.width a.row.now a.names.now a.from) a.n l.i (omega arith) l.invariant.1 (sym c.in_ok-judge_name.was ∙ c.judge_name.ensures ∙ e),
    )

pub returns : goal.returns
returns c =
    let l = c.loop-i in
    let a = c.args in
    left-none (name_asked a.question) (name_at a.width a.row.now a.names.now a.from) a.n l.i (omega arith) l.invariant.1
