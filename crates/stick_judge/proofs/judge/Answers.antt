-- A slip that is refused, or its stick.
use Rattle.shared_words.specs.declared.Refusal.{Refusal}
use Rattle.std.specs.Prelude.{Result, ℕ}
use Rattle.std.proofs.lemmas.Result.{err_from_is_err_and}
use mathlib.Core.Path.{ap, ◌∙◌}
use Rattle.slip_check.specs.Entries.{answer_as}
use Rattle.stick_rules.specs.Records.{judge_call}
use Rattle.stick_judge.proofs.judge.Goals as goal

pub judge_stick-requires : goal.judge_stick-requires
judge_stick-requires c = let k = c.in_ok-entries.ensures in (k.whole, k.few)

pub returns-in_err-entries : goal.returns-in_err-entries
unfolding judge_call
returns-in_err-entries c =
    let p = err_from_is_err_and c.from_residual.result c.from_residual.ensures.1 in
    let e = c.check.ensures.is ∙ ap (λ (r : Result ℕ Refusal). answer_as r c.args.slip.now) c.in_err-entries.was in
    rw (p.1, p.2) (rw e)

pub returns : goal.returns
unfolding judge_call
returns c =
    let e = c.check.ensures.is ∙ ap (λ (r : Result ℕ Refusal). answer_as r c.args.slip.now) c.in_ok-entries.was in
    rw e c.judge_stick.ensures
