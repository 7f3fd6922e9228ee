-- `studio_write::write` meets its contract: the judgement, and the figure where it gives a size.
use Rattle.std.proofs.lemmas.Result.{err_from_is_err_and}
use Rattle.shared_words.specs.declared.Refusal.{Refusal}
use Rattle.std.specs.Prelude.{Result, Ok}
use mathlib.Core.Path.{◌≡◌, sym, ap, ◌∙◌}
use Prim.Native.Nat.{ℕ}
use native.Mathlib.Omega.{arith}
use mathlib.Core.List.{List}
use lib.ListN.{length}
use Rattle.shared_words.specs.Effects.{Effect}
use Rattle.studio_write_bytes.proofs.Bare.{length-bare}
use Rattle.studio_write_judge.proofs.Judged.{ready}
use Rattle.studio_write.proofs.Called.{called}
use Rattle.shared_numbers.proofs.Put.{put_front}
use Rattle.studio_write.proofs.write.Goals as goal

pub put_figure-requires : goal.put_figure-requires
put_figure-requires c = sym c.judge.ensures ∙ c.in_ok-size.was

pub returns-in_err-size : goal.returns-in_err-size
returns-in_err-size c =
    let a = c.args in
    let e = called a.name.now a.vertices.now a.corners.now a.out.now _ (sym c.judge.ensures ∙ c.in_err-size.was) in let p = err_from_is_err_and c.from_residual.result c.from_residual.ensures.1 in
    record { answer = rw (p.1, p.2) (sym (ap (λ (w : Effect (Result ℕ Refusal) (List ℕ)). w.answer) e)); out = sym (ap (λ (w : Effect (Result ℕ Refusal) (List ℕ)). w.rows) e) }

pub returns : goal.returns
returns c =
    let a = c.args in
    let j = sym c.judge.ensures ∙ c.in_ok-size.was in
    let e = called a.name.now a.vertices.now a.corners.now a.out.now _ j in
    let r = ready a.name.now a.vertices.now a.corners.now (length a.out.now) _ j in
    let put = c.put_figure in
    let long = length-bare a.name.now a.vertices.now a.corners.now r.whole-vertices in
    let end : put.result ≡ c.in_ok-size.size = omega (arith, put.ensures.ends, r.size_is) in record { answer = ap Ok end ∙ sym (ap (λ (w : Effect (Result ℕ Refusal) (List ℕ)). w.answer) e); out = put_front put.ensures ∙ sym (ap (λ (w : Effect (Result ℕ Refusal) (List ℕ)). w.rows) e) }
