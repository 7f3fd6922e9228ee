use mathlib.Core.Path.{sym, ◌∙◌, ◌≡◌}
use native.Mathlib.Omega.{arith}
use Rattle.studio_figure_rows.proofs.Runs.{sum_inside, sum-next}
use Rattle.studio_figure_names.proofs.Groups.{going_none, going_out, going_on, going_all}
use Rattle.studio_figure_names.proofs.first_group.Goals as goal

pub loop-i-init : goal.loop-i-init
loop-i-init g c = let a = c.args in (omega arith, omega arith, λ names good t. going_none good names a.groups.now a.from a.n)

pub is_good-requires : goal.is_good-requires
is_good-requires g c =
    c.requires.callable c.loop-i.at c.number-len.result (omega (arith, c.loop-i.invariant.1, c.number-len.ensures.0, sum_inside 2 0 c.args.groups.now c.loop-i.i c.args.n (omega arith)))

pub returns-then-not-is_good-clause-is : goal.returns-then-not-is_good-clause-is
returns-then-not-is_good-clause-is g c =
    let l = c.loop-i in
    let a = c.args in
    let q = sum_inside 2 0 a.groups.now l.i a.n (omega arith) in
    λ names good t. going_out good names a.groups.now a.from a.n l.at c.number-len.result l.i (l.invariant.2 names good t) (omega arith)
    c.number-len.ensures.0 (sym (t l.at c.number-len.result _ (omega (arith, l.invariant.1, c.number-len.ensures.0, q)) c.is_good.ensures) ∙ c.if-not-is_good.true)

pub overflow_add-at : goal.overflow_add-at
overflow_add-at g c =
    let l = c.loop-i in
    let a = c.args in
    omega (arith, l.invariant.1, c.number-len.ensures.0, c.requires.n_in_bounds.1, sum_inside 2 0 a.groups.now l.i a.n (omega arith))

pub loop-i-preserved : goal.loop-i-preserved
loop-i-preserved g c =
    let l = c.loop-i in
    let a = c.args in
    let q = sum_inside 2 0 a.groups.now l.i a.n (omega arith) in (
      omega arith,
      omega (arith, l.invariant.1, c.number-len.ensures.0, sum-next 2 0 a.groups.now l.i),
      λ names good t. going_on good names a.groups.now a.from a.n l.at c.number-len.result l.i (l.invariant.2 names good t) (omega arith)
          c.number-len.ensures.0 (sym (t l.at c.number-len.result _ (omega (arith, l.invariant.1, c.number-len.ensures.0, q)) c.is_good.ensures) ∙ c.if-not-is_good.false),
    )

pub returns-clause-is : goal.returns-clause-is
returns-clause-is g c =
    let l = c.loop-i in
    let a = c.args in
    let e : l.i ≡ a.n = omega arith in
    λ names good t. rw e at (going_all good names a.groups.now a.from a.n l.at l.i (l.invariant.2 names good t) (omega arith))
