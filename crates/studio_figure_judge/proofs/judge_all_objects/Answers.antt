-- 13, 11, 12.
use Rattle.std.proofs.lemmas.Result.{err_from_is_err_and}
use mathlib.Core.Path.{◌∙◌}
use mathlib.Core.List.{◌++◌}
use Rattle.studio_figure_rules.specs.Given.{over}
use Rattle.studio_figure_rows.proofs.Answers.{front-refused, front-passed}
use Rattle.studio_figure_objects.specs.Asked.{counts, floats, indices}
use Rattle.studio_figure_judge.specs.Judged.{numbers}
use Rattle.studio_figure_judge.proofs.judge_all_objects.Goals as goal

pub returns-in_err-judge_counts : goal.returns-in_err-judge_counts
returns-in_err-judge_counts c =
    let a = c.args in
    let first = over (counts a.objects.now a.groups.now) (numbers a.objects.now) in
    let second = over (floats a.objects.now a.vertices.now) (numbers a.objects.now) in
    let third = over (indices a.objects.now a.corners.now a.groups.now a.faces.now) (numbers a.objects.now) in
    let p = err_from_is_err_and c.from_residual.result c.from_residual.ensures.1 in
    rw (p.1, p.2) (front-refused first (second ++ third) _ c.in_err-judge_counts.ensures)

pub returns-in_err-judge_floats : goal.returns-in_err-judge_floats
returns-in_err-judge_floats c =
    let a = c.args in
    let first = over (counts a.objects.now a.groups.now) (numbers a.objects.now) in
    let second = over (floats a.objects.now a.vertices.now) (numbers a.objects.now) in
    let third = over (indices a.objects.now a.corners.now a.groups.now a.faces.now) (numbers a.objects.now) in
    let p = err_from_is_err_and c.from_residual-in_err-judge_floats.result c.from_residual-in_err-judge_floats.ensures.1 in
    rw (p.1, p.2) (front-refused second third _ c.in_err-judge_floats.ensures ∙
    front-passed first (second ++ third) c.in_ok-judge_counts.ensures)

pub returns : goal.returns
returns c =
    let a = c.args in
    let first = over (counts a.objects.now a.groups.now) (numbers a.objects.now) in
    let second = over (floats a.objects.now a.vertices.now) (numbers a.objects.now) in
    let third = over (indices a.objects.now a.corners.now a.groups.now a.faces.now) (numbers a.objects.now) in
    c.judge_indices.ensures ∙
    front-passed second third c.in_ok-judge_floats.ensures ∙
    front-passed first (second ++ third) c.in_ok-judge_counts.ensures
