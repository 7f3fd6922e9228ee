-- MAT4 stands before OBJ5, and once.
use mathlib.Core.Path.{sym, ◌∙◌, subst}
use native.Mathlib.Omega.{arith}
use Rattle.std.proofs.lemmas.Result.{err_from_is_err_and}
use Rattle.c4d_materials.specs.Counted.{Few}
use Rattle.c4d_chunks.proofs.Entered.{materials_order, materials_again, materials_late, materials_refused, materials_known}
use Rattle.c4d_chunks.proofs.enter_materials.Goals as goal

pub returns-then-is_some : goal.returns-then-is_some
returns-then-is_some c = λ notes id e len p rs notes₀ q t a g.
    let x = c.args in
    materials_again x.file.now x.at id len p rs t x.state g e x.end q (sym c.is_some.ensures ∙ c.if-is_some.true)

pub returns-then-is_some-2 : goal.returns-then-is_some-2
returns-then-is_some-2 c = λ notes id e len p rs notes₀ q t a g.
    let x = c.args in
    materials_late x.file.now x.at id len p rs t x.state g e x.end q (sym c.is_some-2.ensures ∙ c.if-is_some-2.true)

pub returns-in_err-n : goal.returns-in_err-n
returns-in_err-n c =
    let x = c.args in
    let y = err_from_is_err_and c.from_residual.result c.from_residual.ensures.1 in
    rw (y.1, y.2) (λ notes id e len p rs notes₀ q t a g.
    let o = materials_order x.file.now x.at id len p rs t x.state g e x.end q (sym c.is_some.ensures ∙ c.if-is_some.false) (sym c.is_some-2.ensures ∙ c.if-is_some-2.false) in
    materials_refused x.file.now x.at id len p rs t x.state g e x.end q o c.in_err-n.field-0.0 (sym c.in_err-n.was ∙ c.materials.ensures.is))

pub returns : goal.returns
returns c = λ notes id e len p rs notes₀ q t a g.
    let x = c.args in
    let o = materials_order x.file.now x.at id len p rs t x.state g e x.end q (sym c.is_some.ensures ∙ c.if-is_some.false) (sym c.is_some-2.ensures ∙ c.if-is_some-2.false) in
    let f = subst (Few x.end) c.in_ok-n.was c.materials.ensures.few in
    materials_known x.file.now x.at id len p rs t x.state g e x.end q o c.in_ok-n.n (omega arith) (sym c.in_ok-n.was ∙ c.materials.ensures.is)
