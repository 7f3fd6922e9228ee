-- A refusal of the file or of the room, or all meshes in the row.
use native.Mathlib.Omega.{arith}
use Rattle.std.proofs.lemmas.Result.{err_from_is_err_and}
use Rattle.cob_tables.proofs.Picks.{readable}
use Rattle.cob_meshes.proofs.Calls.{meshes-refused, no_room, some-room, all-filled}
use Rattle.cob_meshes.proofs.meshes.Goals as goal

pub count_meshes-n-requires : goal.count_meshes-n-requires
count_meshes-n-requires c = readable c.args.file.now c.check.ensures c.in_ok-check.was

pub returns-then-row-n : goal.returns-then-row-n
returns-then-row-n c = let both = no_room _ _ (readable c.args.file.now c.check.ensures c.in_ok-check.was) c.count_meshes-n.ensures c.if-row-n.true in record { answer = both.0; row = both.1 }

pub fill-requires : goal.fill-requires
fill-requires c =
    let x = c.args in
    some-room x.file.now x.row.now (readable c.args.file.now c.check.ensures c.in_ok-check.was) c.count_meshes-n.ensures (omega (arith, c.if-row-n.false))

pub returns-in_err-check : goal.returns-in_err-check
returns-in_err-check c =
    let both = meshes-refused _ _ c.check.ensures c.in_err-check.was in
    let p = err_from_is_err_and c.from_residual.result c.from_residual.ensures.1 in
    rw (p.1, p.2) record { answer = both.0; row = both.1 }

pub returns : goal.returns
returns c =
    let x = c.args in let both = all-filled x.file.now x.row.now (readable c.args.file.now c.check.ensures c.in_ok-check.was) c.count_meshes-n.ensures (omega (arith, c.if-row-n.false)) c.fill.ensures in record { answer = both.0; row = both.1 }
