-- Too little room for the vertices, the corners or the mapping, or the mesh.
use Rattle.std.proofs.lemmas.Result.{err_from_is_err_and}
use Rattle.studio_mesh_asked.proofs.Asks.{asked-yes}
use Rattle.studio_mesh_asked.proofs.Room.{room-short, room-enough, no-room-vertices, no-room-corners, no-room_mapping, room-there}
use Rattle.studio_mesh_asked.proofs.ask_with_room.Goals as goal

pub returns-in_err-need_room : goal.returns-in_err-need_room
returns-in_err-need_room c =
    let x = c.args in
    let p = err_from_is_err_and c.from_residual-in_err-need_room.result c.from_residual-in_err-need_room.ensures.1 in
    let q = asked-yes c.ask.ensures c.in_ok-place.was in
    let l = room-short _ _ c.need_room.ensures c.in_err-need_room.was in
    rw (p.1, p.2, l.1) (no-room-vertices x.file.now x.mesh x.vertices x.corners x.mapping q.is q.placed l.0)

pub returns-in_err-need_room-2 : goal.returns-in_err-need_room-2
returns-in_err-need_room-2 c =
    let x = c.args in
    let p = err_from_is_err_and c.from_residual-in_err-need_room-2.result c.from_residual-in_err-need_room-2.ensures.1 in
    let q = asked-yes c.ask.ensures c.in_ok-place.was in
    let l = room-short _ _ c.need_room-2.ensures c.in_err-need_room-2.was in
    rw (p.1, p.2, l.1)
    (no-room-corners x.file.now x.mesh x.vertices x.corners x.mapping q.is q.placed (room-enough _ _ c.need_room.ensures c.in_ok-need_room.was) l.0)

pub returns-in_err-need_room-3 : goal.returns-in_err-need_room-3
returns-in_err-need_room-3 c =
    let x = c.args in
    let p = err_from_is_err_and c.from_residual-in_err-need_room-3.result c.from_residual-in_err-need_room-3.ensures.1 in
    let q = asked-yes c.ask.ensures c.in_ok-place.was in
    let l = room-short _ _ c.need_room-3.ensures c.in_err-need_room-3.was in
    rw (p.1, p.2, l.1)
    (no-room_mapping x.file.now x.mesh x.vertices x.corners x.mapping q.is q.placed
    (room-enough _ _ c.need_room.ensures c.in_ok-need_room.was)
    (room-enough _ _ c.need_room-2.ensures c.in_ok-need_room-2.was) l.0)

pub returns : goal.returns
returns c =
    let x = c.args in
    let q = asked-yes c.ask.ensures c.in_ok-place.was in
    room-there x.file.now x.mesh x.vertices x.corners x.mapping q.is q.placed
    (room-enough _ _ c.need_room.ensures c.in_ok-need_room.was)
    (room-enough _ _ c.need_room-2.ensures c.in_ok-need_room-2.was)
    (room-enough _ _ c.need_room-3.ensures c.in_ok-need_room-3.was)
