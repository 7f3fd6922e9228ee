-- A refusal, or the mesh's tables.
use Rattle.std.specs.Prelude.{Some}
use Rattle.std.proofs.lemmas.Result.{err_from_is_err_and}
use native.Mathlib.Omega.{arith}
use lib.ListN.{length}
use borrow.Author.Tests.{leb-true}
use Rattle.studio_rules.specs.Calls.{in_numbers}
use Rattle.studio_mesh_asked.proofs.Asks.{asked-no, asked-yes}
use Rattle.studio_mesh_asked.proofs.Room.{has_room}
use Rattle.studio_mesh_tables.proofs.Filled.{gives, tables-refused, tables-filled, filled-sizes}
use Rattle.studio_mesh_tables.proofs.tables.Goals as goal

pub overflow_mul-place : goal.overflow_mul-place
overflow_mul-place c =
    let t = c in
    let x = t.args in
    let q = asked-yes t.ask_with_room.ensures t.in_ok-place.was in
    omega (arith, q.placed.vertices_stay)

pub fill_floats-requires : goal.fill_floats-requires
fill_floats-requires c =
    let t = c in
    let x = t.args in
    let q = asked-yes t.ask_with_room.ensures t.in_ok-place.was in
    let r = has_room (Some (length x.vertices.now)) (Some (length x.corners.now)) (Some (length x.mapping.now)) t.ask_with_room.ensures t.in_ok-place.was in
    (omega (arith, q.placed.vertices_stay), leb-true _ _ r.0, rw q.placed.vertices_are at q.placed.vertices-finite)

pub fill_corners-requires : goal.fill_corners-requires
fill_corners-requires c =
    let t = c in
    let x = t.args in
    let q = asked-yes t.ask_with_room.ensures t.in_ok-place.was in
    let r = has_room (Some (length x.vertices.now)) (Some (length x.corners.now)) (Some (length x.mapping.now)) t.ask_with_room.ensures t.in_ok-place.was in
    (omega (arith, q.placed.faces_stay), leb-true _ _ r.1)

pub fill_pairs-requires : goal.fill_pairs-requires
fill_pairs-requires c =
    let t = c in
    let x = t.args in
    let q = asked-yes t.ask_with_room.ensures t.in_ok-place.was in
    let r = has_room (Some (length x.vertices.now)) (Some (length x.corners.now)) (Some (length x.mapping.now)) t.ask_with_room.ensures t.in_ok-place.was in
    (q.placed.mapping_stays, q.placed.mapping_fits, leb-true _ _ r.2, q.placed.mapping_finite)

pub returns-in_err-place : goal.returns-in_err-place
returns-in_err-place c =
    let x = c.args in
    let p = err_from_is_err_and c.from_residual.result c.from_residual.ensures.1 in
    let q = asked-no c.ask_with_room.ensures c.in_err-place.was in
    let both = gives (tables-refused in_numbers x.file.now x.mesh x.vertices.now x.corners.now x.mapping.now q) in rw (p.1, p.2) record { answer = both.0; filled = both.1 }

pub returns : goal.returns
returns c =
    let t = c in
    let x = t.args in
    let q = asked-yes t.ask_with_room.ensures t.in_ok-place.was in let both = gives (filled-sizes c.sizes_of.ensures (tables-filled in_numbers x.file.now x.mesh x.vertices.now x.corners.now x.mapping.now q.is q.placed
    _ c.fill_floats.ensures _ c.fill_corners.ensures _ c.fill_pairs.ensures)) in record { answer = both.0; filled = both.1 }
