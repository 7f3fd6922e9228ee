use mathlib.Core.Path.{◌≡◌}
use native.Mathlib.Omega.{arith}
use Rattle.studio_names.proofs.Names.{name-eight}
use Rattle.studio_names.proofs.skip_eights.Goals as goal

pub loop-i-init : goal.loop-i-init
loop-i-init c = record { from = omega arith; to = omega arith; on = omega arith }

pub overflow_add-result : goal.overflow_add-result
overflow_add-result c =
    let a = c.args in
    let l = c.loop-i in
    let n = c.nonzero_front-n in
    omega (arith, name-eight a.s.now a.at l.i a.end n.result l.invariant (omega arith) n.ensures)

pub returns-then-n-lt8 : goal.returns-then-n-lt8
returns-then-n-lt8 c =
    let a = c.args in
    let l = c.loop-i in
    let n = c.nonzero_front-n in
    (name-eight a.s.now a.at l.i a.end n.result l.invariant (omega arith) n.ensures).1

pub loop-i-preserved : goal.loop-i-preserved
loop-i-preserved c =
    let a = c.args in
    let l = c.loop-i in
    let n = c.nonzero_front-n in
    let f = name-eight a.s.now a.at l.i a.end n.result l.invariant (omega arith) n.ensures in
    let all : n.result ≡ 8 = omega (arith, f.0) in
    rw all at f.1

pub returns : goal.returns
returns c = c.loop-i.invariant
