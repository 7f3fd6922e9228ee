use mathlib.Core.Path.{◌≡◌, refl, ◌∙◌}
use Prim.Native.Nat.{◌+◌, ◌-◌}
use native.Mathlib.Omega.{arith}
use Rattle.slip_check.proofs.Labels.{label_is, on-start, here, on_unfit, on_fit, on-end}
use Rattle.slip_check.proofs.judge_labels.Goals as goal

pub loop-init : goal.loop-init
loop-init c =
    let n : c.args.count - 0 ≡ c.args.count = omega arith in
    rw n (on-start c.args.s.now c.args.count c.requires)

pub byte_at-len-requires : goal.byte_at-len-requires
byte_at-len-requires c =
    let l = c.loop in
    omega (arith, here c.args.s.now c.args.count (c.args.count - l.counter) l.o l.invariant (omega arith))

pub overflow_add-o : goal.overflow_add-o
overflow_add-o c =
    let l = c.loop in
    omega (arith, here c.args.s.now c.args.count (c.args.count - l.counter) l.o l.invariant (omega arith))

pub overflow_add-o-in-loop : goal.overflow_add-o-in-loop
overflow_add-o-in-loop c =
    let l = c.loop in
    omega (arith, here c.args.s.now c.args.count (c.args.count - l.counter) l.o l.invariant (omega arith))

pub overflow_add-o-in-loop-2 : goal.overflow_add-o-in-loop-2
overflow_add-o-in-loop-2 c =
    let l = c.loop in
    omega (arith, here c.args.s.now c.args.count (c.args.count - l.counter) l.o l.invariant (omega arith), c.byte_at-len.ensures.0)

pub fits_label-requires : goal.fits_label-requires
fits_label-requires c =
    let l = c.loop in
    (omega arith, omega (arith, here c.args.s.now c.args.count (c.args.count - l.counter) l.o l.invariant (omega arith), c.byte_at-len.ensures.0))

pub returns-then-not-fits_label : goal.returns-then-not-fits_label
returns-then-not-fits_label c =
    let l = c.loop in
    let s = c.args.s.now in
    let e = label_is s l.o _ (rw c.byte_at-len.ensures.0 at c.fits_label.ensures) in
    record { is = on_unfit s c.args.count (c.args.count - l.counter) l.o l.invariant (omega arith) (e ∙ c.if-not-fits_label.true); count = tt }

pub overflow_add-o-in-loop-4 : goal.overflow_add-o-in-loop-4
overflow_add-o-in-loop-4 c =
    let l = c.loop in
    omega (arith, here c.args.s.now c.args.count (c.args.count - l.counter) l.o l.invariant (omega arith), c.byte_at-len.ensures.0)

pub loop-preserved : goal.loop-preserved
loop-preserved c =
    let l = c.loop in
    let s = c.args.s.now in
    let n = c.args.count in
    let b = c.byte_at-len.ensures.0 in
    let e = label_is s l.o _ (rw b at c.fits_label.ensures) in
    let left : n - (l.counter + 1) ≡ n - l.counter - 1 = omega arith in
    rw (b, left) (on_fit s n (n - l.counter) l.o l.invariant (omega arith) (e ∙ c.if-not-fits_label.false))

pub returns : goal.returns
returns c =
    let l = c.loop in
    let n = c.args.count in
    record { is = on-end c.args.s.now n (n - l.counter) l.o l.invariant (omega arith); count = refl }
