-- Three corners.
use native.Mathlib.Omega.{arith}
use Rattle.shared_numbers.proofs.Put.{put_then}
use Rattle.studio_box_row.proofs.put_around.Goals as goal

pub returns : goal.returns
returns c =
    let called = c in
    let x = called.requires in
    put_then (omega (arith, x.1)) (put_then (omega (arith, x.1)) called.put_corner-high.ensures called.put_corner-middle.ensures) c.put_corner.ensures
