use native.Mathlib.Omega.{arith}
use Rattle.studio_figure_rows.specs.Rows.{part}
use Rattle.studio_figure_rows.proofs.Runs.{stride, sum_inside}
use Rattle.studio_figure_names.proofs.Differing.{looking_none, looking_here, looking_on, looking_all}
use Rattle.studio_figure_names.proofs.is_one_of.Goals as goal

pub loop-i-init : goal.loop-i-init
loop-i-init c = let a = c.args in looking_none a.width a.row.now a.names.now a.from a.n (part a.at a.len a.names.now)

pub number-its-requires : goal.number-its-requires
number-its-requires c =
    let a = c.args in
    (omega arith, omega (arith, stride a.width c.loop-i.i a.n (omega arith)))

pub same_name-requires : goal.same_name-requires
same_name-requires c =
    let a = c.args in
    let l = c.loop-i in
    (omega (arith, l.invariant.is, c.number-its.ensures.0, sum_inside a.width 0 a.row.now l.i a.n (omega arith)), omega arith)

pub returns-then-same_name : goal.returns-then-same_name
returns-then-same_name c =
    let l = c.loop-i in
    let a = c.args in
    looking_here a.width a.row.now a.names.now a.from a.n (part a.at a.len a.names.now) l.next c.number-its.result l.i c.same_name.result l.invariant (omega arith)
    c.number-its.ensures.0 c.same_name.ensures c.if-same_name.true

pub overflow_add-next : goal.overflow_add-next
overflow_add-next c =
    let l = c.loop-i in
    let a = c.args in
    omega (arith, l.invariant.is, c.number-its.ensures.0, sum_inside a.width 0 a.row.now l.i a.n (omega arith))

pub loop-i-preserved : goal.loop-i-preserved
loop-i-preserved c =
    let l = c.loop-i in
    let a = c.args in
    looking_on a.width a.row.now a.names.now a.from a.n (part a.at a.len a.names.now) l.next c.number-its.result l.i c.same_name.result l.invariant (omega arith)
    c.number-its.ensures.0 c.same_name.ensures c.if-same_name.false

pub returns : goal.returns
returns c =
    let l = c.loop-i in
    let a = c.args in
    looking_all a.width a.row.now a.names.now a.from a.n (part a.at a.len a.names.now) l.next l.i l.invariant (omega arith)
