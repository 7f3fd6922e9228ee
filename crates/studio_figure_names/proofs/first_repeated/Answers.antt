use mathlib.Core.Path.{◌≡◌}
use native.Mathlib.Omega.{arith}
use Rattle.studio_figure_rows.proofs.Runs.{stride, sum-up, sum_inside}
use Rattle.studio_figure_names.proofs.Differing.{comparing_none, comparing_out, comparing_on, comparing_all}
use Rattle.studio_figure_names.proofs.first_repeated.Goals as goal

pub loop-i-init : goal.loop-i-init
loop-i-init c = let a = c.args in comparing_none a.width a.row.now a.names.now a.from a.n

pub number-len-requires : goal.number-len-requires
number-len-requires c =
    let a = c.args in
    (omega arith, omega (arith, stride a.width c.loop-i.i a.n (omega arith)))

pub is_one_of-requires : goal.is_one_of-requires
is_one_of-requires c =
    let a = c.args in
    let l = c.loop-i in
    let up = sum-up a.width 0 a.row.now l.i a.n (omega arith) in
    let inside = sum_inside a.width 0 a.row.now l.i a.n (omega arith) in
    (omega arith, omega (arith, stride a.width l.i a.n (omega arith)), omega arith, omega (arith, l.invariant.is, c.number-len.ensures.0))

pub returns-then-is_one_of : goal.returns-then-is_one_of
returns-then-is_one_of c =
    let l = c.loop-i in
    let a = c.args in
    record {
      is = comparing_out a.width a.row.now a.names.now a.from a.n l.at c.number-len.result l.i c.is_one_of.result l.invariant (omega arith)
          c.number-len.ensures.0 c.is_one_of.ensures c.if-is_one_of.true;
      within = omega arith;
    }

pub overflow_add-at : goal.overflow_add-at
overflow_add-at c =
    let l = c.loop-i in
    let a = c.args in
    omega (arith, l.invariant.is, c.number-len.ensures.0, sum_inside a.width 0 a.row.now l.i a.n (omega arith))

pub loop-i-preserved : goal.loop-i-preserved
loop-i-preserved c =
    let l = c.loop-i in
    let a = c.args in
    comparing_on a.width a.row.now a.names.now a.from a.n l.at c.number-len.result l.i c.is_one_of.result l.invariant (omega arith)
    c.number-len.ensures.0 c.is_one_of.ensures c.if-is_one_of.false

pub returns : goal.returns
returns c =
    let l = c.loop-i in
    let a = c.args in
    let e : l.i ≡ a.n = omega arith in
    record { is = rw e at (comparing_all a.width a.row.now a.names.now a.from a.n l.at l.i l.invariant (omega arith)); within = tt }
