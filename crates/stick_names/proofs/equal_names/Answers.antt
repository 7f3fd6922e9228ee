-- Names of one length are compared from their ends; others are not alike.
use mathlib.Core.Path.{sym, ◌∙◌}
use native.Mathlib.Omega.{arith}
use Rattle.stick_names.proofs.Alike.{alike_lengths, alike_all, alike_on, alike_off, alike_end}
use Rattle.stick_names.proofs.equal_names.Goals as goal

pub returns-then-name-other : goal.returns-then-name-other
returns-then-name-other c = sym (alike_lengths c.args.name.now c.args.other.now c.if-name-other.true)

pub loop-k-init : goal.loop-k-init
loop-k-init c = alike_all c.args.name.now c.args.other.now (omega arith)

pub returns-then-lower : goal.returns-then-lower
returns-then-lower c =
    let a = c.args in
    let l = c.loop-k in
    let u = c.lower.ensures in
    let v = c.lower-in-loop-k.ensures in
    sym (alike_off a.name.now a.other.now (omega arith) l.k (omega arith) l.invariant (λ e. c.if-lower.true (u ∙ e ∙ sym v)))

pub loop-k-preserved : goal.loop-k-preserved
loop-k-preserved c =
    let a = c.args in
    let l = c.loop-k in
    let u = c.lower.ensures in
    let v = c.lower-in-loop-k.ensures in
    alike_on a.name.now a.other.now (omega arith) l.k (omega arith) l.invariant (sym u ∙ c.if-lower.false ∙ v)

pub returns : goal.returns
returns c =
    let a = c.args in
    let l = c.loop-k in
    sym (alike_end a.name.now a.other.now (omega arith) l.k (omega arith) l.invariant)
