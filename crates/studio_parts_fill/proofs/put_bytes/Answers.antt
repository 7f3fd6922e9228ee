-- Two numbers of four bytes.
use native.Mathlib.Omega.{arith}
use Rattle.studio_parts_fill.proofs.Ways.{two_longs}
use Rattle.studio_parts_fill.proofs.put_bytes.Goals as goal

pub returns : goal.returns
returns c =
    let d = c.depth_in_bytes-depth in
    let x = c in
    rw (← d.ensures) (two_longs x.args.father d.result (omega (arith, x.requires.1)) c.put_long-behind.ensures c.put_long.ensures)
