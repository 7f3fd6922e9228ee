-- The list, into a lent row whose room is counted in whole records.
use native.Mathlib.Omega.{arith}
use Rattle.cob_check.proofs.Answers.{too_long, prepared, walk_refused, walk-good}
use Rattle.std.proofs.lemmas.Result.{err_from_is_err_and}
use Rattle.cob_rules.specs.Walk.{verdict}
use Rattle.cob_list.proofs.Calls.{call-refused, call-no-room, call-filled, fillable}
use Rattle.cob_list.proofs.list.Goals as goal

pub returns-then-file-gt1048576 : goal.returns-then-file-gt1048576
returns-then-file-gt1048576 c = let x = c.args in let both = call-refused x.file.now x.row.now (too_long x.file.now c.if-file-gt1048576.true) in record { answer = both.0; row = both.1 }

pub judge_file-requires : goal.judge_file-requires
judge_file-requires c = let x = c.args in let l = c.if-file-gt1048576.false in prepared x.file.now 52429 104858 (omega arith) (omega arith) (omega arith) (omega arith) (omega arith)

pub returns-then-row-n : goal.returns-then-row-n
returns-then-row-n c = let x = c.args in
    let g = walk-good (verdict x.file.now) _ _ _ c.judge_file.ensures c.in_ok-walked.was in let both = call-no-room x.file.now x.row.now g.1 g.2.records_are c.if-row-n.true in record { answer = both.0; row = both.1 }

pub fill_records-requires : goal.fill_records-requires
fill_records-requires c = let x = c.args in
    let g = walk-good (verdict x.file.now) _ _ _ c.judge_file.ensures c.in_ok-walked.was in
    fillable x.file.now x.row.now g.1 g.2.records_are c.if-row-n.false g.2

pub returns-in_err-walked : goal.returns-in_err-walked
returns-in_err-walked c = let x = c.args in
    let p = err_from_is_err_and c.from_residual.result c.from_residual.ensures.1 in
    let both = call-refused x.file.now x.row.now (walk_refused (verdict x.file.now) _ _ _ c.judge_file.ensures c.in_err-walked.was) in
    rw (p.1, p.2) record { answer = both.0; row = both.1 }

pub returns : goal.returns
returns c = let x = c.args in
    let g = walk-good (verdict x.file.now) _ _ _ c.judge_file.ensures c.in_ok-walked.was in
    let both = call-filled x.file.now x.row.now g.1 g.2.records_are c.if-row-n.false c.fill_records.ensures in
    record { answer = both.0; row = both.1 }
