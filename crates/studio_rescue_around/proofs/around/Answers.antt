-- A fault of the file itself, or what stands around 3D3D.
use mathlib.Core.Path.{◌∙◌}
use Rattle.studio_check.proofs.Files.{file-is_fine, file-bounds}
use Rattle.studio_rescue_around.proofs.Whole.{whole-refused, whole-read}
use Rattle.std.proofs.lemmas.Result.{err_from_is_err_and}
use Rattle.studio_rescue_around.proofs.around.Goals as goal

pub scene_at-requires : goal.scene_at-requires
scene_at-requires c =
    let s = c.args.file.now in
    let w = c.judge_file in
    (file-bounds s (file-is_fine s w.result c.in_ok-judge_file.was w.ensures)).0

pub judge_children-requires : goal.judge_children-requires
judge_children-requires c =
    let s = c.args.file.now in
    let w = c.judge_file in
    let b = file-bounds s (file-is_fine s w.result c.in_ok-judge_file.was w.ensures) in
    (b.0, b.1, c.scene_at.ensures)

pub returns-in_err-judge_file : goal.returns-in_err-judge_file
returns-in_err-judge_file c =
    let w = c.judge_file in
    let y = err_from_is_err_and c.from_residual.result c.from_residual.ensures.1 in
    rw (y.1, y.2)
    (whole-refused c.args.file.now _ w.result c.in_err-judge_file.was w.ensures)

pub returns : goal.returns
returns c =
    let s = c.args.file.now in
    let w = c.judge_file in
    c.judge_children.ensures ∙ whole-read s c.version.result c.version.ensures (file-is_fine s w.result c.in_ok-judge_file.was w.ensures)
