use mathlib.Core.Path.{refl, sym, ap, ◌∙◌}
use Prim.Native.Nat.{ℕ, ◌-◌, ◌/◌}
use mathlib.Core.Bool.{cond}
use lib.Dec.{eqb}
use lib.ListN.{length}
use Rattle.stick_rules.specs.declared.ItemRecord.{ItemRecord}
use native.Mathlib.Omega.{arith}
use Rattle.stick_records.proofs.Walk.{whole-none, whole-start, whole-over, whole-on, whole-end}
use Rattle.stick_records.proofs.is_whole.Goals as goal

abbrev listing : ItemRecord → ℕ
listing r = cond (eqb r.kind 2) (r.size - 1) 0

pub returns-then-n-eq0 : goal.returns-then-n-eq0
returns-then-n-eq0 c = let a = c.args in sym (whole-none a.names.now a.items.now c.if-n-eq0.true)

pub loop-i-init : goal.loop-i-init
loop-i-init c = let a = c.args in whole-start a.names.now a.items.now _ refl c.if-n-eq0.false

pub returns-then-left-more : goal.returns-then-left-more
returns-then-left-more c =
    let a = c.args in
    let l = c.loop-i in
    let m = c.listed-more.ensures ∙ ap listing c.item_record-it.ensures in
    sym (whole-over a.names.now a.items.now (length a.items.now / 56) l.left l.i l.invariant (omega arith) (omega (arith, m)))

pub loop-i-preserved : goal.loop-i-preserved
loop-i-preserved c =
    let a = c.args in
    let l = c.loop-i in
    let m = c.listed-more.ensures ∙ ap listing c.item_record-it.ensures in
    rw m (whole-on a.names.now a.items.now (length a.items.now / 56) l.left l.i l.invariant (omega arith) (omega (arith, m)))

pub returns : goal.returns
returns c = let a = c.args in let l = c.loop-i in sym (whole-end a.names.now a.items.now _ l.left l.i l.invariant (omega arith))
