-- Eight numbers of four bytes.
use native.Mathlib.Omega.{arith}
use Rattle.shared_numbers.proofs.Put.{put_then}
use Rattle.cob_meshes.proofs.put_numbers.Goals as goal

pub returns : goal.returns
returns c =
    let two = put_then (omega (arith, c.requires)) c.put_long-size.ensures c.put_long-position.ensures in
    let three = put_then (omega (arith, c.requires)) two c.put_long-vertices.ensures in
    let four = put_then (omega (arith, c.requires)) three c.put_long-floats.ensures in
    let five = put_then (omega (arith, c.requires)) four c.put_long-faces.ensures in
    let six = put_then (omega (arith, c.requires)) five c.put_long-given.ensures in
    let seven = put_then (omega (arith, c.requires)) six c.put_long-record.ensures in
    put_then (omega (arith, c.requires)) seven c.put_long.ensures
