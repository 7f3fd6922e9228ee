-- OBJ5 stands once.
use mathlib.Core.Path.{sym, ◌∙◌}
use Rattle.std.proofs.lemmas.Result.{err_from_is_err_and}
use Rattle.c4d_chunks.proofs.Entered.{objects-again, objects-refused, objects-known}
use Rattle.c4d_chunks.proofs.enter_objects.Goals as goal

pub returns-then-is_some : goal.returns-then-is_some
returns-then-is_some c = λ id e len p rs notes₀ q t a g.
    let x = c.args in
    objects-again x.file.now x.at id len p rs t x.state g e x.end q (sym c.is_some.ensures ∙ c.if-is_some.true)

pub returns-in_err-figure : goal.returns-in_err-figure
returns-in_err-figure c =
    let x = c.args in
    let y = err_from_is_err_and c.from_residual.result c.from_residual.ensures.1 in
    rw (y.1, y.2) (λ id e len p rs notes₀ q t a g.
    objects-refused x.file.now x.at id len p rs t x.state g e x.end q (sym c.is_some.ensures ∙ c.if-is_some.false) c.in_err-figure.field-0.0
    (sym c.in_err-figure.was ∙ (rw c.below.ensures.is at c.objects.ensures.is)))

pub returns : goal.returns
returns c = λ id e len p rs notes₀ q t a g.
    let x = c.args in
    objects-known x.file.now x.at id len p rs t x.state g e x.end q (sym c.is_some.ensures ∙ c.if-is_some.false) c.in_ok-figure.figure c.objects.new.notes
    (sym c.in_ok-figure.was ∙ (rw c.below.ensures.is at c.objects.ensures.is)) (rw c.below.ensures.is at c.objects.ensures.noted)
