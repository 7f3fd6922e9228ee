-- A refusal leaves the buffer alone; else the slip is put at its front.
use Rattle.shared_words.specs.declared.Refusal.{Refusal}
use Rattle.std.specs.Prelude.{Result}
use Rattle.std.proofs.lemmas.Result.{err_from_is_err_and}
use mathlib.Core.Path.{sym, ap, subst, ◌∙◌}
use mathlib.Core.List.{List}
use Prim.Native.Nat.{ℕ}
use Rattle.shared_words.specs.Effects.{Effect}
use Rattle.shared_numbers.proofs.Put.{put_front}
use Rattle.slip_write.proofs.Calls.{WriteIs, write-is}
use Rattle.slip_write.proofs.write.Goals as goal

abbrev answer : Effect (Result ℕ Refusal) (List ℕ) → Result ℕ Refusal
answer e = e.answer

abbrev rows : Effect (Result ℕ Refusal) (List ℕ) → List ℕ
rows e = e.rows

pub put_slip-requires : goal.put_slip-requires
put_slip-requires c =
    let a = c.args in
    let e = sym c.judge.ensures ∙ c.in_ok-size.was in
    (subst (WriteIs a.names.now a.entries.now a.out.now) e (write-is a.names.now a.entries.now a.out.now)).0

pub returns-in_err-size : goal.returns-in_err-size
returns-in_err-size c =
    let a = c.args in
    let p = err_from_is_err_and c.from_residual.result c.from_residual.ensures.1 in
    let e = sym c.judge.ensures ∙ c.in_err-size.was in
    let w = subst (WriteIs a.names.now a.entries.now a.out.now) e (write-is a.names.now a.entries.now a.out.now) in rw (p.1, p.2) record { answer = sym (ap answer w); out = sym (ap rows w) }

pub returns : goal.returns
returns c =
    let a = c.args in
    let e = sym c.judge.ensures ∙ c.in_ok-size.was in
    let w = (subst (WriteIs a.names.now a.entries.now a.out.now) e (write-is a.names.now a.entries.now a.out.now)).1 in record { answer = sym (ap answer w); out = put_front c.put_slip.ensures ∙ sym (ap rows w) }
