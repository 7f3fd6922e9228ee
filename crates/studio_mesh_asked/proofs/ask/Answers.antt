-- The check's answer, and then the mesh that is found.
use mathlib.Core.Path.{sym, ◌∙◌}
use native.Mathlib.Omega.{arith}
use Rattle.std.proofs.lemmas.Result.{err_from_is_err_and}
use Rattle.shared_words.proofs.Bytes.{bytes-all}
use Rattle.studio_check.proofs.Accepted.{accepted-by, meets-by}
use Rattle.studio_mesh_asked.proofs.Asks.{file-refused, mesh-asked}
use Rattle.studio_mesh_asked.proofs.ask.Goals as goal

pub find_mesh-requires : goal.find_mesh-requires
find_mesh-requires c =
    let x = c.args in
    let b = bytes-all x.file.now (λ i. omega (arith, c.type_inv.file i)) in
    let l = accepted-by x.file.now _ (sym c.check.ensures ∙ c.in_ok-check.was) in
    (l.kids, meets-by b l)

pub returns-in_err-check : goal.returns-in_err-check
returns-in_err-check c =
    let p = err_from_is_err_and c.from_residual.result c.from_residual.ensures.1 in
    rw (p.1, p.2) (file-refused c.args.file.now c.args.mesh (sym c.check.ensures ∙ c.in_err-check.was))

pub returns : goal.returns
returns c =
    let x = c.args in
    let b = bytes-all x.file.now (λ i. omega (arith, c.type_inv.file i)) in
    let l = accepted-by x.file.now _ (sym c.check.ensures ∙ c.in_ok-check.was) in
    mesh-asked x.file.now x.mesh l c.find_mesh.result (c.find_mesh.ensures l.kids (meets-by b l))
