use mathlib.Core.Path.{◌≡◌}
use native.Mathlib.Omega.{arith}
use Rattle.studio_figure_rows.proofs.Runs.{stride, sum-next, sum-up, capped-past, capped-all}
use Rattle.studio_figure_rows.proofs.sum.Goals as goal

pub loop-i-init : goal.loop-i-init
loop-i-init c = (omega arith, omega arith)

pub returns-then-cap-sum : goal.returns-then-cap-sum
returns-then-cap-sum c =
    let l = c.loop-i in
    let a = c.args in
    capped-past _ _ _ _ _ l.invariant.1 (sum-up a.width a.column a.row.now l.i a.to (omega arith)) c.if-cap-sum.true l.invariant.0

pub number-sum-requires : goal.number-sum-requires
number-sum-requires c =
    let a = c.args in
    (omega arith, omega (arith, stride a.width c.loop-i.i a.to (omega arith)))

pub overflow_add-sum : goal.overflow_add-sum
overflow_add-sum c = omega (arith, c.number-sum.ensures.1)

pub loop-i-preserved : goal.loop-i-preserved
loop-i-preserved c =
    let l = c.loop-i in
    let a = c.args in
    (omega (arith, c.number-sum.ensures.1), omega (arith, l.invariant.1, c.number-sum.ensures.0, sum-next a.width a.column a.row.now l.i))

pub returns : goal.returns
returns c =
    let l = c.loop-i in
    let a = c.args in
    let e : l.i ≡ a.to = omega arith in
    capped-all _ _ _ _ (rw e at l.invariant.1) l.invariant.0
