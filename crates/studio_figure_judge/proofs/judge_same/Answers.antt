-- `studio_figure_judge::judge_same` meets its contract: the objects, then the materials.
use Rattle.std.proofs.lemmas.Result.{err_from_is_err_and}
use mathlib.Core.Path.{◌≡◌, sym, ap, ◌∙◌}
use Prim.Native.Nat.{ℕ}
use native.Mathlib.Omega.{arith}
use mathlib.Core.List.{[]}
use lib.ListN.{length}
use Rattle.shared_words.specs.Conditions.{answered}
use Rattle.studio_figure_rules.specs.Judged.{differ}
use Rattle.studio_figure_rows.proofs.Answers.{front-refused, front-passed}
use Rattle.studio_figure_rows.proofs.Runs.{capped-under}
use Rattle.studio_figure_names.specs.Names.{names_in}
use Rattle.studio_figure_judge.specs.Judged.{object_names, materials_at, material_names}
use Rattle.studio_figure_judge.proofs.judge_same.Goals as goal

pub judge_differ-requires-2 : goal.judge_differ-requires-2
judge_differ-requires-2 c =
    let k = capped-under _ _ _ _ c.sum-first.ensures (omega arith) in
    (omega arith, omega arith, omega arith)

pub returns-in_err-judge_differ : goal.returns-in_err-judge_differ
returns-in_err-judge_differ c =
    let a = c.args in
    let p = err_from_is_err_and c.from_residual.result c.from_residual.ensures.1 in
    rw (p.1, p.2) (front-refused (differ [] (object_names a.names.now a.objects.now)) (differ [] (material_names a.names.now a.objects.now a.materials.now)) _ (sym c.in_err-judge_differ.was ∙ c.judge_differ.ensures))

pub returns : goal.returns
returns c =
    let a = c.args in
    let k = capped-under _ _ _ _ c.sum-first.ensures (omega arith) in
    let b : c.sum-first.result ≡ materials_at a.objects.now = omega arith in
    let e = ap (λ (k : ℕ). answered (differ [] (names_in 1 a.materials.now a.names.now k (length a.materials.now)))) b in
    c.judge_differ-2.ensures ∙ e ∙
    front-passed (differ [] (object_names a.names.now a.objects.now)) (differ [] (material_names a.names.now a.objects.now a.materials.now)) (sym c.in_ok-judge_differ.was ∙ c.judge_differ.ensures)
