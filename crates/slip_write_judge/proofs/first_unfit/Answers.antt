use mathlib.Core.Path.{◌≡◌, ap, sym, ◌∙◌}
use Prim.Native.Nat.{◌-◌}
use native.Mathlib.Omega.{arith}
use Rattle.slip_rules.specs.declared.Numbers.{Numbers}
use Rattle.slip_rules.specs.Rules.{is_labelled}
use Rattle.slip_rules.specs.Calls.{entry_from}
use Rattle.slip_write_judge.proofs.Labels.{label_is, on-start, on_unfit, on_fit, on-all}
use Rattle.slip_write_judge.proofs.first_unfit.Goals as goal

pub loop-i-init : goal.loop-i-init
loop-i-init c = on-start _ _ _

pub fits_label-requires : goal.fits_label-requires
fits_label-requires c =
    let start = c in
    (omega arith, rw c.row-it.ensures (start.requires.1 c.loop-i.i (omega arith)))

pub returns-then-not-fits_label : goal.returns-then-not-fits_label
returns-then-not-fits_label c =
    let l = c.loop-i in
    let a = c.args in
    let it = c.row-it in
    let e = ap (λ (r : Numbers). is_labelled (entry_from a.names.now r)) (sym it.ensures) ∙ label_is a.names.now it.result _ c.fits_label.ensures in
    on_unfit a.names.now a.entries.now a.n l.i l.invariant (omega arith) (e ∙ c.if-not-fits_label.true)

pub loop-i-preserved : goal.loop-i-preserved
loop-i-preserved c =
    let l = c.loop-i in
    let a = c.args in
    let it = c.row-it in
    let e = ap (λ (r : Numbers). is_labelled (entry_from a.names.now r)) (sym it.ensures) ∙ label_is a.names.now it.result _ c.fits_label.ensures in
    on_fit a.names.now a.entries.now a.n l.i l.invariant (omega arith) (e ∙ c.if-not-fits_label.false)

pub returns : goal.returns
returns c =
    let l = c.loop-i in
    let a = c.args in
    let e : l.i ≡ a.n = omega arith in
    rw e at (on-all a.names.now a.entries.now a.n l.i l.invariant e)
