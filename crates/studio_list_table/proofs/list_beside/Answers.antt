-- The front of the row that is lent to the list has just the room that is allowed.
use mathlib.Core.Path.{◌≡◌, sym}
use Prim.Native.Nat.{◌/◌, ◌≤◌, min}
use native.Mathlib.Omega.{arith}
use lib.ListN.{length}
use lib.Seq.{length-take-le}
use Rattle.studio_rules.specs.Gives.{record_numbers}
use Rattle.studio_list_table.proofs.Front.{front-list}
use Rattle.studio_list_table.proofs.list_beside.Goals as goal
use Rattle.studio_list_table.proofs.list_beside.Goals.{then-room-end, else-room-end}

pub slice_bounds-list-end : goal.slice_bounds-list-end
slice_bounds-list-end c = elim c.if-room-end.branch [ then-room-end w ↦ omega arith | else-room-end w ↦ omega arith ]

pub slice_bounds-list-end-2 : goal.slice_bounds-list-end-2
slice_bounds-list-end-2 c =
    let l : c.if-room-end.end ≤ length c.args.row.now = elim c.if-room-end.branch [ then-room-end w ↦ omega arith | else-room-end w ↦ omega arith ] in
    sym (length-take-le _ _ l)

pub returns : goal.returns
returns c =
    let x = c.args in
    let end = c.if-room-end.end in
    let l : end ≤ length x.row.now = elim c.if-room-end.branch [ then-room-end w ↦ omega arith | else-room-end w ↦ omega arith ] in
    let e : end / record_numbers ≡ min x.room (length x.row.now / record_numbers) = elim c.if-room-end.branch [ then-room-end w ↦ omega arith | else-room-end w ↦ omega arith ] in
    front-list x.file.now x.row.now x.room end l e c.list.ensures.answer c.list.ensures.filled
