-- A refusal, or the name's place.
use Rattle.std.proofs.lemmas.Result.{err_from_is_err_and}
use native.Mathlib.Omega.{arith}
use Rattle.shared_words.proofs.Bytes.{bytes-all}
use Rattle.studio_mesh_asked.proofs.Asks.{asked-no, asked-yes}
use Rattle.studio_mesh_calls.proofs.Calls.{name-refused, name-goes-on}
use Rattle.studio_mesh_asked.proofs.Within.{name-within}
use Rattle.studio_mesh_calls.proofs.name.Goals as goal

pub returns-in_err-place : goal.returns-in_err-place
returns-in_err-place c =
    let x = c.args in
    let p = err_from_is_err_and c.from_residual.result c.from_residual.ensures.1 in
    let q = asked-no c.ask.ensures c.in_err-place.was in
    rw (p.1, p.2) record { answer = name-refused x.file.now x.mesh q; within = tt }

pub returns : goal.returns
returns c =
    let x = c.args in
    let q = asked-yes c.ask.ensures c.in_ok-place.was in
    let b = bytes-all x.file.now (λ i. omega (arith, c.type_inv.file i)) in record { answer = name-goes-on x.file.now x.mesh q.is q.placed; within = omega (arith, name-within x.file.now b x.mesh q.is, q.placed.name-at, q.placed.name-size) }
