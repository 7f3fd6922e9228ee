-- `studio_figure_objects::judge_finite` meets its contract.
use mathlib.Core.Path.{sym, ◌∙◌}
use mathlib.Core.List.{[]}
use Rattle.shared_words.specs.declared.Refusal.TheVariants.{Number}
use Rattle.studio_write_judge.specs.Judged.{finite_float}
use Rattle.studio_figure_rows.proofs.Answers.{none-broken, row-refused, row-passed}
use Rattle.studio_figure_objects.proofs.judge_finite.Goals as goal

pub returns-then-not-all_finite : goal.returns-then-not-all_finite
returns-then-not-all_finite c = row-refused finite_float c.args.vertices.now Number [] _ c.first_not_finite.ensures (sym c.all_finite.ensures ∙ c.if-not-all_finite.true)

pub returns : goal.returns
returns c = none-broken ∙ row-passed finite_float c.args.vertices.now Number [] (sym c.all_finite.ensures ∙ c.if-not-all_finite.false)
