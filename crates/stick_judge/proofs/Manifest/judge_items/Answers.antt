use Rattle.std.proofs.lemmas.Result.{err_from_is_err_and}
use mathlib.Core.Path.{refl, ◌∙◌}
use Prim.Native.Nat.{◌/◌}
use native.Mathlib.Omega.{arith}
use lib.ListN.{length}
use Rattle.stick_judge.specs.Expected.{expected}
use Rattle.stick_judge.proofs.Going.{going_start, going_bad, going_on, going_end}
use Rattle.stick_judge.proofs.Manifest.judge_items.Goals as goal

pub loop-i-init : goal.loop-i-init
loop-i-init c =
    let x = c in
    let a = x.args in
    going_start (expected a.self.now) a.names.now a.items.now a.matched.now (length a.items.now / 56) refl (omega (arith, x.requires.2)) x.requires.1

pub judge_item-requires : goal.judge_item-requires
judge_item-requires c = let x = c in (omega arith, omega (arith, x.requires.0, c.loop-i.invariant.long))

pub shape_of-matched-in_err-judge_item : goal.shape_of-matched-in_err-judge_item
shape_of-matched-in_err-judge_item c = c.judge_item.ensures.long ∙ c.loop-i.invariant.long

pub returns-in_err-judge_item : goal.returns-in_err-judge_item
returns-in_err-judge_item c =
    let p = err_from_is_err_and c.from_residual.result c.from_residual.ensures.1 in
    let x = c in
    let a = x.args in
    let l = c.loop-i in
    let n = length a.items.now / 56 in
    let es = expected a.self.now in
    rw (p.1, p.2) (going_bad es a.names.now a.items.now a.matched.now n l.matched l.i l.invariant (omega arith) c.judge_item.result _ c.judge_item.ensures _ c.in_err-judge_item.was)

pub loop-i-preserved : goal.loop-i-preserved
loop-i-preserved c =
    let x = c in
    let a = x.args in
    let l = c.loop-i in
    let n = length a.items.now / 56 in
    let es = expected a.self.now in
    going_on es a.names.now a.items.now a.matched.now n l.matched l.i l.invariant (omega arith) c.judge_item.result _ c.judge_item.ensures c.in_ok-judge_item.was

pub shape_of-matched : goal.shape_of-matched
shape_of-matched c = c.loop-i.invariant.long

pub returns : goal.returns
returns c =
    let x = c in
    let a = x.args in
    let l = c.loop-i in
    let n = length a.items.now / 56 in
    let es = expected a.self.now in
    going_end es a.names.now a.items.now a.matched.now n l.matched l.i l.invariant (omega arith)
