-- The judgement, and the figure where it gives a size.
use Rattle.std.proofs.lemmas.Result.{err_from_is_err_and}
use Rattle.shared_words.specs.declared.Refusal.{Refusal}
use Rattle.std.specs.Prelude.{Result}
use mathlib.Core.Path.{sym, ap, ◌∙◌}
use mathlib.Core.List.{List}
use Prim.Native.Nat.{ℕ}
use Rattle.shared_words.specs.Effects.{Effect}
use Rattle.shared_numbers.proofs.Put.{put_front}
use Rattle.studio_figure_rows.specs.Given.{given}
use Rattle.studio_figure.proofs.Called.{called}
use Rattle.studio_figure.proofs.write_figure.Goals as goal

pub put_figure-requires : goal.put_figure-requires
put_figure-requires c = sym c.judge_figure.ensures ∙ c.in_ok-size.was

pub returns-in_err-size : goal.returns-in_err-size
returns-in_err-size c =
    let a = c.args in
    let r = given a.rows.now in
    let e = called r a.out.now _ (sym c.judge_figure.ensures ∙ c.in_err-size.was) in
    let p = err_from_is_err_and c.from_residual.result c.from_residual.ensures.1 in
    record { answer = rw (p.1, p.2) (sym (ap (λ (w : Effect (Result ℕ Refusal) (List ℕ)). w.answer) e)); out = sym (ap (λ (w : Effect (Result ℕ Refusal) (List ℕ)). w.rows) e) }

pub returns : goal.returns
returns c =
    let a = c.args in
    let r = given a.rows.now in
    let e = called r a.out.now _ (sym c.judge_figure.ensures ∙ c.in_ok-size.was) in
    record {
      answer = sym (ap (λ (w : Effect (Result ℕ Refusal) (List ℕ)). w.answer) e);
      out = put_front c.put_figure.ensures ∙ sym (ap (λ (w : Effect (Result ℕ Refusal) (List ℕ)). w.rows) e);
    }
