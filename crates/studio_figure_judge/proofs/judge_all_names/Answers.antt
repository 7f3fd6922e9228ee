-- 9, 24, 29, 30.
use Rattle.std.proofs.lemmas.Result.{err_from_is_err_and}
use mathlib.Core.Path.{◌∙◌}
use mathlib.Core.List.{◌++◌}
use Rattle.studio_figure_rows.proofs.Answers.{front-refused, front-passed}
use Rattle.studio_figure_names.specs.declared.Question.TheVariants.{Zero, Label}
use Rattle.studio_figure_judge.specs.Judged.{text_asked, same_asked, material_asked}
use Rattle.studio_figure_judge.proofs.judge_all_names.Goals as goal

pub returns-in_err-judge_text : goal.returns-in_err-judge_text
returns-in_err-judge_text c =
    let a = c.args in
    let zeros = text_asked Zero a.names.now a.objects.now a.materials.now in
    let texts = text_asked Label a.names.now a.objects.now a.materials.now in
    let sames = same_asked a.names.now a.objects.now a.materials.now in
    let last = material_asked a.names.now a.objects.now a.materials.now a.groups.now in
    let p = err_from_is_err_and c.from_residual.result c.from_residual.ensures.1 in
    rw (p.1, p.2) (front-refused zeros (texts ++ (sames ++ last)) _ c.in_err-judge_text.ensures)

pub returns-in_err-judge_text-2 : goal.returns-in_err-judge_text-2
returns-in_err-judge_text-2 c =
    let a = c.args in
    let zeros = text_asked Zero a.names.now a.objects.now a.materials.now in
    let texts = text_asked Label a.names.now a.objects.now a.materials.now in
    let sames = same_asked a.names.now a.objects.now a.materials.now in
    let last = material_asked a.names.now a.objects.now a.materials.now a.groups.now in
    let p = err_from_is_err_and c.from_residual-in_err-judge_text-2.result c.from_residual-in_err-judge_text-2.ensures.1 in
    rw (p.1, p.2) (front-refused texts (sames ++ last) _ c.in_err-judge_text-2.ensures ∙
    front-passed zeros (texts ++ (sames ++ last)) c.in_ok-judge_text.ensures)

pub returns-in_err-judge_same : goal.returns-in_err-judge_same
returns-in_err-judge_same c =
    let a = c.args in
    let zeros = text_asked Zero a.names.now a.objects.now a.materials.now in
    let texts = text_asked Label a.names.now a.objects.now a.materials.now in
    let sames = same_asked a.names.now a.objects.now a.materials.now in
    let last = material_asked a.names.now a.objects.now a.materials.now a.groups.now in
    let p = err_from_is_err_and c.from_residual-in_err-judge_same.result c.from_residual-in_err-judge_same.ensures.1 in
    rw (p.1, p.2) (front-refused sames last _ c.in_err-judge_same.ensures ∙
    front-passed texts (sames ++ last) c.in_ok-judge_text-2.ensures ∙
    front-passed zeros (texts ++ (sames ++ last)) c.in_ok-judge_text.ensures)

pub returns : goal.returns
returns c =
    let a = c.args in
    let zeros = text_asked Zero a.names.now a.objects.now a.materials.now in
    let texts = text_asked Label a.names.now a.objects.now a.materials.now in
    let sames = same_asked a.names.now a.objects.now a.materials.now in
    let last = material_asked a.names.now a.objects.now a.materials.now a.groups.now in
    c.judge_materials.ensures ∙
    front-passed sames last c.in_ok-judge_same.ensures ∙
    front-passed texts (sames ++ last) c.in_ok-judge_text-2.ensures ∙
    front-passed zeros (texts ++ (sames ++ last)) c.in_ok-judge_text.ensures
