-- A refused slip stays refused; the entries of an accepted one are put where there is room.
use Rattle.shared_words.specs.declared.Refusal.{Refusal}
use Rattle.std.specs.Prelude.{Result}
use Rattle.std.proofs.lemmas.Result.{err_from_is_err_and}
use mathlib.Core.Path.{sym, ap, ◌∙◌}
use mathlib.Core.List.{List}
use Prim.Native.Nat.{ℕ}
use native.Mathlib.Omega.{arith}
use Rattle.shared_words.specs.Effects.{Effect}
use Rattle.slip_check.specs.Entries.{answer_as}
use Rattle.slip_read.proofs.Rows.{read-refused, read_small, read-filled}
use Rattle.slip_read.proofs.read.Goals as goal

abbrev answer : Effect (Result ℕ Refusal) (List ℕ) → Result ℕ Refusal
answer e = e.answer

abbrev row : Effect (Result ℕ Refusal) (List ℕ) → List ℕ
row e = e.rows

pub returns-in_err-n : goal.returns-in_err-n
returns-in_err-n c =
    let a = c.args in
    let p = err_from_is_err_and c.from_residual.result c.from_residual.ensures.1 in
    let e = c.check.ensures.is ∙ ap (λ (r : Result ℕ Refusal). answer_as r a.slip.now) c.in_err-n.was in
    let q = read-refused a.slip.now a.row.now _ e in
    rw (p.1, p.2) record { answer = sym (ap answer q); row = sym (ap row q) }

pub returns-then-row-n : goal.returns-then-row-n
returns-then-row-n c =
    let a = c.args in
    let e = c.check.ensures.is ∙ ap (λ (r : Result ℕ Refusal). answer_as r a.slip.now) c.in_ok-n.was in
    let q = read_small a.slip.now a.row.now _ e c.if-row-n.true in
    record { answer = sym (ap answer q); row = sym (ap row q) }

pub fill-requires : goal.fill-requires
fill-requires c = let k = c.in_ok-n.ensures in (k.whole, k.few, omega arith)

pub returns : goal.returns
returns c =
    let a = c.args in
    let e = c.check.ensures.is ∙ ap (λ (r : Result ℕ Refusal). answer_as r a.slip.now) c.in_ok-n.was in
    let q = read-filled a.slip.now a.row.now _ e c.if-row-n.false in
    record { answer = sym (ap answer q); row = c.fill.ensures ∙ sym (ap row q) }
