-- The check of a file: the count of its records, or the refusal.
use native.Mathlib.Omega.{arith}
use Rattle.std.proofs.lemmas.Result.{err_from_is_err_and}
use Rattle.cob_rules.specs.Calls.{check_call}
use Rattle.cob_rules.specs.Walk.{verdict}
use Rattle.cob_check.proofs.Answers.{too_long, prepared, walk_refused, walk-good, answer-refused, answer-good}
use Rattle.cob_check.proofs.check.Goals as goal

pub returns-then-file-gt1048576 : goal.returns-then-file-gt1048576
unfolding check_call
returns-then-file-gt1048576 c = rw (too_long _ c.if-file-gt1048576.true)

pub judge_file-requires : goal.judge_file-requires
judge_file-requires c = let x = c.args in let l = c.if-file-gt1048576.false in prepared x.file.now 52429 104858 (omega arith) (omega arith) (omega arith) (omega arith) (omega arith)

pub returns-in_err-walked : goal.returns-in_err-walked
unfolding check_call
returns-in_err-walked c =
    let x = c.args in
    let p = err_from_is_err_and c.from_residual.result c.from_residual.ensures.1 in
    rw (p.1, p.2) (answer-refused (verdict x.file.now) (walk_refused (verdict x.file.now) _ _ _ c.judge_file.ensures c.in_err-walked.was))

pub returns : goal.returns
unfolding check_call
returns c =
    let x = c.args in
    let g = walk-good (verdict x.file.now) _ _ _ c.judge_file.ensures c.in_ok-walked.was in
    answer-good (verdict x.file.now) g.1 g.2
