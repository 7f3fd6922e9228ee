-- A refusal, or the vertices and corners as bytes.
use mathlib.Core.List.{[]}
use mathlib.Core.Path.{refl}
use Rattle.std.specs.Prelude.{Some, None}
use Rattle.std.proofs.lemmas.Result.{err_from_is_err_and}
use native.Mathlib.Omega.{arith}
use lib.ListN.{length}
use borrow.Author.Tests.{leb-true}
use Rattle.studio_rules.specs.Calls.{in_bytes}
use Rattle.studio_mesh_asked.proofs.Asks.{asked-no, asked-yes}
use Rattle.studio_mesh_asked.proofs.Room.{has_room}
use Rattle.studio_mesh_asked.proofs.Within.{limit-by}
use Rattle.shared_words.proofs.Bytes.{bytes-all}
use Prim.Native.Nat.{◌*◌, ◌/◌, ◌≤◌}
use Rattle.studio_mesh_tables.proofs.Filled.{gives, pick, tables-refused, tables-filled, filled-sizes, within}
use Rattle.studio_mesh_tables.proofs.tables_bytes.Goals as goal

pub overflow_mul-place : goal.overflow_mul-place
overflow_mul-place c =
    let t = c in
    let x = t.args in
    let q = asked-yes t.ask_with_room.ensures t.in_ok-place.was in
    omega (arith, q.placed.vertices_stay)

pub fill_float_bytes-requires : goal.fill_float_bytes-requires
fill_float_bytes-requires c =
    let t = c in
    let x = t.args in
    let q = asked-yes t.ask_with_room.ensures t.in_ok-place.was in
    let r = has_room (Some (length x.vertices.now / 4)) (Some (length x.corners.now / 2)) None t.ask_with_room.ensures t.in_ok-place.was in
    let room : 3 * t.in_ok-place.place.vertices.count ≤ length x.vertices.now / 4 = leb-true _ _ r.0 in
    (omega (arith, q.placed.vertices_stay), omega arith)

pub fill_corner_bytes-requires : goal.fill_corner_bytes-requires
fill_corner_bytes-requires c =
    let t = c in
    let x = t.args in
    let q = asked-yes t.ask_with_room.ensures t.in_ok-place.was in
    let r = has_room (Some (length x.vertices.now / 4)) (Some (length x.corners.now / 2)) None t.ask_with_room.ensures t.in_ok-place.was in
    let room : 3 * t.in_ok-place.place.faces.count ≤ length x.corners.now / 2 = leb-true _ _ r.1 in
    (q.placed.faces_stay, omega arith)

pub returns-in_err-place : goal.returns-in_err-place
returns-in_err-place c =
    let x = c.args in
    let p = err_from_is_err_and c.from_residual.result c.from_residual.ensures.1 in
    let q = asked-no c.ask_with_room.ensures c.in_err-place.was in
    let g = gives (tables-refused in_bytes x.file.now x.mesh x.vertices.now x.corners.now [] q) in rw (p.1, p.2) record { answer = g.0; filled = g.1; within = tt }

pub returns : goal.returns
returns c =
    let t = c in
    let x = t.args in
    let q = asked-yes t.ask_with_room.ensures t.in_ok-place.was in
    let b = bytes-all x.file.now (λ i. omega (arith, t.type_inv.file i)) in
    let l = limit-by x.file.now b x.mesh (pick in_bytes x.file.now x.mesh x.vertices.now x.corners.now []) q.is in
    let g = gives (filled-sizes c.sizes_of.ensures (tables-filled in_bytes x.file.now x.mesh x.vertices.now x.corners.now [] q.is q.placed
    _ c.fill_float_bytes.ensures _ c.fill_corner_bytes.ensures [] refl)) in record { answer = g.0; filled = g.1; within = within q.placed l c.sizes_of.ensures }
