use mathlib.Core.Path.{sym, subst, ◌∙◌}
use native.Mathlib.Omega.{arith}
use Rattle.shared_names.specs.Alike.{AlikeFor}
use Rattle.shared_names.proofs.Same.{alike_four, longs_differ}
use Rattle.shared_names.proofs.same_blocks.Goals as goal

pub returns-then-long_at : goal.returns-then-long_at
returns-then-long_at c =
    longs_differ c.args.x.now c.args.y.now _ c.loop-k.invariant (λ e. c.if-long_at.true (c.long_at.ensures.is ∙ e ∙ sym c.long_at-in-loop-k.ensures.is))

pub loop-k-preserved : goal.loop-k-preserved
loop-k-preserved c =
    let x = c.args.x.now in
    let y = c.args.y.now in
    let e = sym c.long_at.ensures.is ∙ c.if-long_at.false ∙ c.long_at-in-loop-k.ensures.is in
    let four = alike_four x y _ c.loop-k.invariant (omega (arith, c.requires)) (omega (arith, c.requires)) (λ k. omega (arith, c.type_inv.x k)) (λ k. omega (arith, c.type_inv.y k)) e in
    subst (AlikeFor x y) (omega arith) four
