-- A refusal, or the mapping as bytes.
use mathlib.Core.List.{[]}
use mathlib.Core.Path.{refl}
use Rattle.std.specs.Prelude.{Some, None}
use Rattle.std.proofs.lemmas.Result.{err_from_is_err_and}
use native.Mathlib.Omega.{arith}
use lib.ListN.{length}
use borrow.Author.Tests.{leb-true}
use Rattle.studio_rules.specs.Calls.{mapping_in_bytes}
use Rattle.studio_mesh_asked.proofs.Asks.{asked-no, asked-yes}
use Rattle.studio_mesh_asked.proofs.Room.{has_room}
use Rattle.studio_mesh_asked.proofs.Within.{limit-by}
use Rattle.shared_words.proofs.Bytes.{bytes-all}
use Prim.Native.Nat.{◌*◌, ◌/◌, ◌≤◌}
use Rattle.studio_mesh_tables.proofs.Filled.{gives, pick, tables-refused, tables-filled, filled-sizes, within}
use Rattle.studio_mesh_tables.proofs.mapping_bytes.Goals as goal

pub fill_pair_bytes-requires : goal.fill_pair_bytes-requires
fill_pair_bytes-requires c =
    let t = c in
    let x = t.args in
    let q = asked-yes t.ask_with_room.ensures t.in_ok-place.was in
    let r = has_room None None (Some (length x.mapping.now / 4)) t.ask_with_room.ensures t.in_ok-place.was in
    let room : 2 * t.in_ok-place.place.mapping.pairs ≤ length x.mapping.now / 4 = leb-true _ _ r.2 in
    (q.placed.mapping_stays, q.placed.mapping_fits, omega arith)

pub returns-in_err-place : goal.returns-in_err-place
returns-in_err-place c =
    let x = c.args in
    let p = err_from_is_err_and c.from_residual.result c.from_residual.ensures.1 in
    let q = asked-no c.ask_with_room.ensures c.in_err-place.was in
    let g = gives (tables-refused mapping_in_bytes x.file.now x.mesh [] [] x.mapping.now q) in rw (p.1, p.2) record { answer = g.0; filled = g.1; within = tt }

pub returns : goal.returns
returns c =
    let t = c in
    let x = t.args in
    let q = asked-yes t.ask_with_room.ensures t.in_ok-place.was in
    let b = bytes-all x.file.now (λ i. omega (arith, t.type_inv.file i)) in
    let l = limit-by x.file.now b x.mesh (pick mapping_in_bytes x.file.now x.mesh [] [] x.mapping.now) q.is in
    let g = gives (filled-sizes c.sizes_of.ensures (tables-filled mapping_in_bytes x.file.now x.mesh [] [] x.mapping.now q.is q.placed [] refl [] refl _ c.fill_pair_bytes.ensures)) in record { answer = g.0; filled = g.1; within = within q.placed l c.sizes_of.ensures }
