-- The stick's own folder, then all of it.
use Rattle.std.proofs.lemmas.Result.{err_from_is_err_and}
use mathlib.Core.Path.{sym, ◌∙◌}
use native.Mathlib.Omega.{arith}
use Rattle.slip_check.specs.Entries.{entries_in}
use Rattle.stick_judge.proofs.Whole.{part_left, nothing-handed, root-refused, root-good}
use Rattle.stick_judge.proofs.judge_stick.Goals as goal

pub returns-then-items-ne0 : goal.returns-then-items-ne0
returns-then-items-ne0 c =
    let a = c.args in
    let es = entries_in a.entries a.slip.now 7 in
    sym (part_left a.slip.now es a.names.now a.items.now c.if-items-ne0.true)

pub returns-then-items-eq0 : goal.returns-then-items-eq0
returns-then-items-eq0 c =
    let a = c.args in
    let es = entries_in a.entries a.slip.now 7 in
    sym (nothing-handed a.slip.now es a.names.now a.items.now c.if-items-eq0.true)

pub judge_root-requires : goal.judge_root-requires
judge_root-requires c = omega (arith, c.if-items-ne0.false, c.if-items-eq0.false)

pub judge_all-requires : goal.judge_all-requires
judge_all-requires c = let x = c in (x.requires.0, x.requires.1, omega (arith, c.if-items-ne0.false, c.if-items-eq0.false))

pub returns-in_err-judge_root : goal.returns-in_err-judge_root
returns-in_err-judge_root c =
    let a = c.args in
    let es = entries_in a.entries a.slip.now 7 in
    let p = err_from_is_err_and c.from_residual.result c.from_residual.ensures.1 in
    rw (p.1, p.2) (sym (root-refused a.slip.now es a.names.now a.items.now c.if-items-ne0.false c.judge_root.result c.judge_root.ensures _ c.in_err-judge_root.was))

pub returns : goal.returns
returns c =
    let a = c.args in
    let es = entries_in a.entries a.slip.now 7 in
    c.judge_all.ensures ∙ sym (root-good a.slip.now es a.names.now a.items.now c.if-items-ne0.false c.judge_root.result c.judge_root.ensures c.in_ok-judge_root.was)
