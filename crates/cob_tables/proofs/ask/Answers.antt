-- The check of the file, then the mesh.
use Prim.Native.Nat.{ℕ}
use mathlib.Core.Path.{subst}
use native.Mathlib.Omega.{arith}
use Rattle.std.proofs.lemmas.Result.{err_from_is_err_and}
use Rattle.cob_tables.specs.Asked.{FoundIs}
use Rattle.cob_tables.proofs.Picks.{file-refused, readable, found-asked}
use Rattle.cob_tables.proofs.ask.Goals as goal

pub find_mesh-requires : goal.find_mesh-requires
find_mesh-requires c = (readable c.args.file.now c.check.ensures c.in_ok-check.was, omega (arith, c.wide.ensures))

pub returns-in_err-check : goal.returns-in_err-check
returns-in_err-check c =
    let p = err_from_is_err_and c.from_residual.result c.from_residual.ensures.1 in
    rw (p.1, p.2) (file-refused c.args.file.now c.check.ensures _ c.in_err-check.was)

pub returns : goal.returns
returns c = let x = c.args in
    found-asked x.file.now x.mesh (readable x.file.now c.check.ensures c.in_ok-check.was) _
    (subst (λ (n : ℕ). FoundIs x.file.now n c.find_mesh.result) c.wide.ensures c.find_mesh.ensures)
