-- `studio_figure_objects::judge_below` meets its contract.
use mathlib.Core.Path.{sym, ◌∙◌}
use mathlib.Core.List.{[]}
use lib.Dec.{ltb}
use Rattle.shared_words.specs.declared.Refusal.TheVariants.{Index}
use Rattle.studio_figure_rows.proofs.Answers.{none-broken, row-passed, row-found, row-through}
use Rattle.studio_figure_objects.proofs.judge_below.Goals as goal

pub returns-then-all_below : goal.returns-then-all_below
returns-then-all_below c = none-broken ∙ row-passed (λ x. ltb x c.args.n) c.args.row.now Index [] (sym c.all_below.ensures ∙ c.if-all_below.true)

pub returns-then-at-row : goal.returns-then-at-row
returns-then-at-row c = row-found (λ x. ltb x c.args.n) c.args.row.now Index [] _ c.first_not_below-at.ensures c.if-at-row.true

pub returns : goal.returns
returns c = none-broken ∙ row-through (λ x. ltb x c.args.n) c.args.row.now Index [] _ c.first_not_below-at.ensures c.if-at-row.false
