use native.Mathlib.Omega.{arith}
use Rattle.studio_names.proofs.Names.{name-past}
use Rattle.studio_names.proofs.skip_blocks.Goals as goal

pub loop-i-init : goal.loop-i-init
loop-i-init c = record { from = omega arith; to = omega arith; on = omega arith }

pub returns-then-not-no_zero : goal.returns-then-not-no_zero
returns-then-not-no_zero c = c.loop-i.invariant

pub loop-i-preserved : goal.loop-i-preserved
loop-i-preserved c =
    let x = c in
    let l = c.loop-i in
    let r = name-past x.args.s.now 16 l.i x.args.end (c.no_zero.ensures c.if-not-no_zero.false) (omega arith) x.requires.1 in
    let h = l.invariant in
    record { from = omega arith; to = omega arith; on = omega (arith, h.on, r) }

pub returns : goal.returns
returns c = c.loop-i.invariant
