-- The items, then what is left.
use Rattle.std.proofs.lemmas.Result.{err_from_is_err_and}
use mathlib.Core.Path.{sym, ◌∙◌}
use mathlib.Core.List.{[], tail}
use native.Mathlib.Omega.{arith}
use Rattle.slip_check.specs.Entries.{entries_in}
use Rattle.stick_rules.specs.Judge.{matched_by, manifest}
use Rattle.stick_rules.specs.Records.{items_in}
use Rattle.stick_judge.proofs.Marking.{length_expected}
use Rattle.stick_judge.proofs.Whole.{no-marks, item_refused, items_good}
use Rattle.stick_judge.proofs.judge_all.Goals as goal

pub judge_items-requires : goal.judge_items-requires
judge_items-requires c = let x = c in (omega arith, no-marks 64_064, x.requires.2)

pub returns-in_err-judge_items : goal.returns-in_err-judge_items
returns-in_err-judge_items c =
    let filled = c in
    let a = filled.args in
    let es = manifest a.slip.now (entries_in a.entries a.slip.now 7) in
    let ts = items_in a.names.now a.items.now in
    let j = c.judge_items in
    let k = j.ensures.judges (no-marks 64_064) in
    let p = err_from_is_err_and c.from_residual.result c.from_residual.ensures.1 in
    rw (p.1, p.2) (sym (item_refused es ts j.result k.is _ c.in_err-judge_items.was))

pub returns : goal.returns
returns c =
    let filled = c in
    let a = filled.args in
    let es = manifest a.slip.now (entries_in a.entries a.slip.now 7) in
    let ts = items_in a.names.now a.items.now in
    let j = c.judge_items in
    let k = j.ensures.judges (no-marks 64_064) in
    let q = c.in_ok-judge_items.was in
    c.judge_rest.ensures es (matched_by es [] (tail ts)) (length_expected a.slip.now a.entries) (k.marks q) ∙
    sym (items_good es ts j.result k.is q)
