use mathlib.Core.Path.{refl, sym, ◌∙◌}
use Prim.Native.Nat.{◌-◌}
use native.Mathlib.Omega.{arith}
use Rattle.studio_child.proofs.Runs.{header-there, reached-x, passed, reached-end}
use Rattle.studio_child.proofs.next_child.Goals as goal

pub loop-o-init : goal.loop-o-init
loop-o-init c = λ p t h. record { rest = t; spans = h; same = refl }

pub word_at-requires : goal.word_at-requires
word_at-requires c =
    let x = c in
    let r = c.loop-o.invariant x.requires.1.0 x.requires.1.1 x.requires.1.2 in
    omega (arith, header-there _ _ _ _ _ r.spans c.loop-o-test.true, r.spans.stands.stays)

pub returns-then-word_at-id : goal.returns-then-word_at-id
returns-then-word_at-id c =
    let x = c in
    let r = c.loop-o.invariant in
    λ p t h.
    let q = r p t h in
    sym (q.same ∙ reached-x x.args.id x.requires.0 p _ _ x.args.stop q.rest q.spans c.loop-o-test.true (sym c.word_at.ensures.is ∙ c.if-word_at-id.true))

pub overflow_add-o : goal.overflow_add-o
overflow_add-o c =
    let x = c in
    let r = c.loop-o.invariant x.requires.1.0 x.requires.1.1 x.requires.1.2 in
    omega (arith, header-there _ _ _ _ _ r.spans c.loop-o-test.true, r.spans.stands.stays, r.spans.stands.small)

pub long_at-requires : goal.long_at-requires
long_at-requires c =
    let x = c in
    let r = c.loop-o.invariant x.requires.1.0 x.requires.1.1 x.requires.1.2 in
    omega (arith, header-there _ _ _ _ _ r.spans c.loop-o-test.true, r.spans.stands.stays, r.spans.stands.small)

pub overflow_cast-o : goal.overflow_cast-o
overflow_cast-o c = omega (arith, c.long_at.ensures.small)

pub overflow_add-o-in-loop-o : goal.overflow_add-o-in-loop-o
overflow_add-o-in-loop-o c =
    let x = c in
    let q = c.loop-o.invariant x.requires.1.0 x.requires.1.1 x.requires.1.2 in
    let g = passed x.args.id x.requires.0 _ _ _ x.args.stop q.rest q.spans c.loop-o-test.true (λ e. c.if-word_at-id.false (c.word_at.ensures.is ∙ e)) in
    omega (arith, g.ends, q.spans.stands.stays, q.spans.stands.small, c.long_at.ensures.is)

pub loop-o-smaller : goal.loop-o-smaller
loop-o-smaller c =
    let x = c in
    let q = c.loop-o.invariant x.requires.1.0 x.requires.1.1 x.requires.1.2 in
    let g = passed x.args.id x.requires.0 _ _ _ x.args.stop q.rest q.spans c.loop-o-test.true (λ e. c.if-word_at-id.false (c.word_at.ensures.is ∙ e)) in
    omega (arith, g.ends, g.on, c.long_at.ensures.is)

pub loop-o-preserved : goal.loop-o-preserved
loop-o-preserved c =
    let x = c in
    λ p t h.
    let q = c.loop-o.invariant p t h in
    let g = passed x.args.id x.requires.0 p _ _ x.args.stop q.rest q.spans c.loop-o-test.true (λ e. c.if-word_at-id.false (c.word_at.ensures.is ∙ e)) in
    record { rest = g.rest; spans = rw c.long_at.ensures.is g.spans; same = rw c.long_at.ensures.is (q.same ∙ g.same) }

pub returns : goal.returns
returns c =
    let x = c in
    λ p t h.
    let q = c.loop-o.invariant p t h in
    sym (q.same ∙ reached-end x.args.id x.requires.0 p _ _ x.args.stop q.rest q.spans (omega arith))
