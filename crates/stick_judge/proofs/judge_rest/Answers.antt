-- The walk, then the entries.
use Rattle.std.proofs.lemmas.Result.{err_from_is_err_and}
use mathlib.Core.Path.{sym, ◌∙◌}
use Rattle.stick_rules.specs.Records.{items_in}
use Rattle.stick_judge.proofs.Whole.{rest_absent, rest_unfinished, rest-no-figure, rest-good}
use Rattle.stick_judge.proofs.judge_rest.Goals as goal

pub returns-then-not-is_whole : goal.returns-then-not-is_whole
returns-then-not-is_whole c =
    let a = c.args in
    let ts = items_in a.names.now a.items.now in
    rest_unfinished a.n ts a.matched.now (sym c.is_whole.ensures ∙ c.if-not-is_whole.true)

pub returns-then-not-has_figure : goal.returns-then-not-has_figure
returns-then-not-has_figure c =
    let a = c.args in
    let ts = items_in a.names.now a.items.now in
    let j = c.judge_entries in
    let w = sym c.is_whole.ensures ∙ c.if-not-is_whole.false in
    rest-no-figure a.n ts a.matched.now w j.result j.ensures c.in_ok-judge_entries.was (sym c.has_figure.ensures ∙ c.if-not-has_figure.true)

pub returns-in_err-judge_entries : goal.returns-in_err-judge_entries
returns-in_err-judge_entries c =
    let a = c.args in
    let ts = items_in a.names.now a.items.now in
    let j = c.judge_entries in
    let w = sym c.is_whole.ensures ∙ c.if-not-is_whole.false in
    let p = err_from_is_err_and c.from_residual.result c.from_residual.ensures.1 in
    rw (p.1, p.2) (rest_absent a.n ts a.matched.now w j.result j.ensures _ c.in_err-judge_entries.was)

pub returns : goal.returns
returns c =
    let a = c.args in
    let ts = items_in a.names.now a.items.now in
    let j = c.judge_entries in
    let w = sym c.is_whole.ensures ∙ c.if-not-is_whole.false in
    rest-good a.n ts a.matched.now w j.result j.ensures c.in_ok-judge_entries.was (sym c.has_figure.ensures ∙ c.if-not-has_figure.false)
