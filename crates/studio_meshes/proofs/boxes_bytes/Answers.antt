-- A refusal, or all boxes in the row.
use mathlib.Core.Path.{sym, ◌∙◌}
use native.Mathlib.Omega.{arith}
use Rattle.studio_rules.specs.Gives.{meshes}
use Rattle.std.proofs.lemmas.Result.{err_from_is_err_and}
use Rattle.studio_meshes_rules.specs.Boxes.{box_bytes, boxes_call}
use Rattle.studio_meshes_rules.specs.Standing.{standing}
use Rattle.studio_counted.proofs.All.{gives, all-refused, all-filled}
use Rattle.studio_meshes.proofs.InRow.{boxes_fit, as_many-meshes, boxes_refused, boxes_filled}
use Rattle.studio_meshes.proofs.boxes_bytes.Goals as goal

pub fill-requires : goal.fill-requires
fill-requires c = let a = c.in_ok-meshes.ensures in (a.0, (a.3.0, boxes_fit (standing a.0) _ a.3.1))

pub returns-in_err-meshes : goal.returns-in_err-meshes
unfolding boxes_call
returns-in_err-meshes c =
    let x = c.args in
    let p = err_from_is_err_and c.from_residual.result c.from_residual.ensures.1 in
    let both = gives (all-refused meshes x.file.now box_bytes x.row.now (boxes_refused _ _ _ c.in_err-meshes.ensures)) in
    rw (p.1, p.2) record { answer = both.0; filled = both.1 }

pub returns : goal.returns
unfolding boxes_call
returns c =
    let x = c.args in
    let a = c.in_ok-meshes.ensures in
    let n = as_many-meshes a.0 in
    let both = gives (all-filled meshes x.file.now box_bytes x.row.now a.0 a.1 _ (a.2 ∙ sym n) (omega (arith, n, a.3.1)) _
    (boxes_filled a.0 _ _ (c.fill.ensures a.0 (a.3.0, boxes_fit (standing a.0) _ a.3.1)))) in
    record { answer = both.0; filled = both.1 }
