-- A refusal, or all meshes in the row.
use Rattle.std.proofs.lemmas.Result.{err_from_is_err_and}
use Rattle.studio_meshes_rules.specs.Calls.{mesh_bytes, meshes_call}
use Rattle.studio_meshes_rules.specs.Standing.{standing}
use Rattle.studio_counted.proofs.All.{gives, all-refused, all-filled}
use Rattle.studio_meshes.proofs.InRow.{numbers_fit}
use Rattle.studio_meshes.proofs.meshes_bytes.Goals as goal

pub fill-requires : goal.fill-requires
fill-requires c = let a = c.in_ok-meshes.ensures in (a.0, (a.3.0, numbers_fit (standing a.0) _ a.3.1))

pub returns-in_err-meshes : goal.returns-in_err-meshes
unfolding meshes_call
returns-in_err-meshes c =
    let x = c.args in
    let p = err_from_is_err_and c.from_residual.result c.from_residual.ensures.1 in
    let both = gives (all-refused standing x.file.now mesh_bytes x.row.now c.in_err-meshes.ensures) in
    rw (p.1, p.2) record { answer = both.0; filled = both.1 }

pub returns : goal.returns
unfolding meshes_call
returns c =
    let x = c.args in
    let a = c.in_ok-meshes.ensures in
    let both = gives (all-filled standing x.file.now mesh_bytes x.row.now a.0 a.1 _ a.2 a.3.1 _ (c.fill.ensures a.0 (a.3.0, numbers_fit (standing a.0) _ a.3.1))) in
    record { answer = both.0; filled = both.1 }
