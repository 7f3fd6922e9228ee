-- A fault of the file itself, or what its chunks come to.
use mathlib.Core.Path.{◌∙◌}
use Rattle.studio_check.proofs.Files.{file-refused, file-is_fine, file-read, file-bounds}
use Rattle.std.proofs.lemmas.Result.{err_from_is_err_and}
use Rattle.studio_check.proofs.check.Goals as goal

pub check_figure-requires : goal.check_figure-requires
check_figure-requires c =
    let x = c in
    let w = c.judge_file in
    file-bounds x.args.file.now (file-is_fine x.args.file.now w.result c.in_ok-judge_file.was w.ensures)

pub returns-in_err-judge_file : goal.returns-in_err-judge_file
returns-in_err-judge_file c =
    let x = c in
    let w = c.judge_file in
    let y = err_from_is_err_and c.from_residual.result c.from_residual.ensures.1 in
    rw (y.1, y.2) (file-refused x.args.file.now _ w.result c.in_err-judge_file.was w.ensures)

pub returns : goal.returns
returns c =
    let x = c in
    let w = c.judge_file in
    c.check_figure.ensures ∙ file-read x.args.file.now (file-is_fine x.args.file.now w.result c.in_ok-judge_file.was w.ensures)
