use mathlib.Core.Path.{refl, sym, ap, ◌∙◌}
use mathlib.Core.Bool.{Bool, not, ◌&&◌}
use Prim.Native.Nat.{◌-◌, ◌/◌}
use native.Mathlib.Omega.{arith}
use lib.Dec.{eqb}
use lib.ListN.{length}
use Rattle.stick_rules.specs.declared.ItemRecord.{ItemRecord}
use Rattle.stick_records.proofs.Walk.{figures_start, figures_found, figures_on, figures_end}
use Rattle.stick_records.proofs.has_figure.Goals as goal

abbrev figure : ItemRecord → Bool
figure r = eqb r.kind 1 && not (eqb r.reader 0)

pub loop-i-init : goal.loop-i-init
loop-i-init c = let a = c.args in figures_start a.names.now a.items.now (length a.items.now / 56) refl

pub returns-then-is_figure : goal.returns-then-is_figure
returns-then-is_figure c =
    let a = c.args in
    let l = c.loop-i in
    let m = sym (c.is_figure.ensures ∙ ap figure c.item_record-it.ensures) in
    sym (figures_found a.names.now a.items.now (length a.items.now / 56) l.i l.invariant (omega arith) (m ∙ c.if-is_figure.true))

pub loop-i-preserved : goal.loop-i-preserved
loop-i-preserved c =
    let a = c.args in
    let l = c.loop-i in
    let m = sym (c.is_figure.ensures ∙ ap figure c.item_record-it.ensures) in
    figures_on a.names.now a.items.now (length a.items.now / 56) l.i l.invariant (omega arith) (m ∙ c.if-is_figure.false)

pub returns : goal.returns
returns c = let a = c.args in let l = c.loop-i in sym (figures_end a.names.now a.items.now (length a.items.now / 56) l.i l.invariant (omega arith))
