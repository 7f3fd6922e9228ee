use mathlib.Core.Path.{sym, ◌∙◌}
use Prim.Native.Nat.{◌-◌}
use native.Mathlib.Omega.{arith}
use Rattle.studio_head.proofs.Passing.{passed_none, passed-one}
use Rattle.studio_head.proofs.pass_over.Goals as goal

pub loop-o-init : goal.loop-o-init
loop-o-init c = passed_none _ _ _ c.requires.0

pub returns-in_default : goal.returns-in_default
returns-in_default c = let i = c.loop-o.invariant in record { is = i.passes; within = (i.past, i.before) }

pub is_listed-requires : goal.is_listed-requires
is_listed-requires c = let w = c.in-Ok.ensures.within in (omega (arith, w.2), c.requires.2)

pub returns-then-is_listed : goal.returns-then-is_listed
returns-then-is_listed c = let i = c.loop-o.invariant in record { is = i.passes; within = (i.past, i.before) }

pub loop-o-smaller : goal.loop-o-smaller
loop-o-smaller c = let w = c.in-Ok.ensures.within in omega (arith, w.0, w.1)

pub loop-o-preserved : goal.loop-o-preserved
loop-o-preserved c =
    let w = c.read_header in
    passed-one _ _ _ _ c.loop-o.invariant c.loop-o-test.true c.requires.1 w.result w.ensures.is _ _ c.in-Ok.is c.in-Ok.ensures.within (sym c.is_listed.ensures ∙ c.if-is_listed.false)

pub returns : goal.returns
returns c = let i = c.loop-o.invariant in record { is = i.passes; within = (i.past, i.before) }
