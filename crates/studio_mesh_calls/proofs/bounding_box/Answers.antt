-- A refusal, an empty mesh, or the box.
use Prim.Native.Nat.{◌<◌}
use Rattle.std.proofs.lemmas.Result.{err_from_is_err_and}
use native.Mathlib.Omega.{arith}
use Rattle.studio_mesh_asked.proofs.Asks.{asked-no, asked-yes}
use Rattle.studio_mesh_calls.proofs.Numbers.{box-numbers}
use Rattle.studio_mesh_calls.proofs.Calls.{box-refused, box-empty, box-goes-on}
use Rattle.studio_mesh_calls.proofs.bounding_box.Goals as goal

pub returns-then-n-eq0 : goal.returns-then-n-eq0
returns-then-n-eq0 c =
    let x = c.args in
    let q = asked-yes c.ask.ensures c.in_ok-place.was in record { answer = box-empty x.file.now x.mesh q.is q.placed c.if-n-eq0.true; numbers = tt }

pub box_of-around-requires : goal.box_of-around-requires
box_of-around-requires c =
    let q = asked-yes c.ask.ensures c.in_ok-place.was in
    let p = q.placed in
    let n : 0 < c.in_ok-place.place.vertices.count = omega arith in
    (n, p.vertices_stay, rw p.vertices_are at p.vertices-finite)

pub returns-in_err-place : goal.returns-in_err-place
returns-in_err-place c =
    let x = c.args in
    let p = err_from_is_err_and c.from_residual.result c.from_residual.ensures.1 in
    let q = asked-no c.ask.ensures c.in_err-place.was in
    rw (p.1, p.2) record { answer = box-refused x.file.now x.mesh q; numbers = tt }

pub returns : goal.returns
returns c =
    let x = c.args in
    let q = asked-yes c.ask.ensures c.in_ok-place.was in
    let p = q.placed in
    let b = c.box_of-around in record { answer = box-goes-on x.file.now x.mesh q.is p c.if-n-eq0.false b.result b.ensures c.centre_of.result c.centre_of.ensures; numbers = box-numbers _ _ (rw p.vertices_are at p.vertices-finite) b.ensures c.centre_of.ensures }
