use native.Mathlib.Omega.{arith}
use Rattle.studio_names.proofs.Names.{name-here, name-on, name-nowhere, name-both}
use Rattle.studio_names.proofs.name_size.Goals as goal

pub loop-i-init : goal.loop-i-init
loop-i-init c =
    let a = c.args in
    name-both a.s.now a.at c.skip_blocks.result a.end c.skip_eights-from.result c.skip_blocks.ensures c.skip_eights-from.ensures

pub returns-then-s-i-eq0 : goal.returns-then-s-i-eq0
returns-then-s-i-eq0 c =
    let l = c.loop-i in
    let a = c.args in
    omega (arith, l.invariant.on, name-here a.s.now l.i a.end (omega arith) (omega arith) c.if-s-i-eq0.true)

pub loop-i-preserved : goal.loop-i-preserved
loop-i-preserved c =
    let l = c.loop-i in
    let a = c.args in
    let h = l.invariant in
    record { from = omega arith; to = omega arith; on = omega (arith, h.on, name-on a.s.now l.i a.end (omega arith) (omega arith) c.if-s-i-eq0.false) }

pub returns : goal.returns
returns c =
    let l = c.loop-i in
    let a = c.args in
    omega (arith, l.invariant.on, name-nowhere a.s.now l.i a.end (omega arith))
