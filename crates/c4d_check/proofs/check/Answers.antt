-- A refusal stays; of a figure the count is answered.
use mathlib.Core.Path.{sym}
use Rattle.std.proofs.lemmas.Result.{err_from_is_err_and}
use Rattle.c4d_check.proofs.Verdict.{checked_refused, checked_good}
use Rattle.c4d_check.proofs.check.Goals as goal

pub returns-in_err-figure : goal.returns-in_err-figure
returns-in_err-figure c =
    let p = err_from_is_err_and c.from_residual.result c.from_residual.ensures.1 in
    rw (p.1, p.2) (sym (checked_refused c.args.file.now c.in_err-figure.field-0.0 c.in_err-figure.ensures))

pub returns : goal.returns
returns c = sym (checked_good c.args.file.now _ c.read.new.notes c.in_ok-figure.figure c.in_ok-figure.ensures)
