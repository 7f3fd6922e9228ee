-- Two stores.
use native.Mathlib.Omega.{arith}
use lib.ListN.{length-set}
use Rattle.studio_parts_fill.proofs.Ways.{two_stores}
use Rattle.studio_parts_fill.proofs.put_numbers.Goals as goal

pub bounds-row-at-2 : goal.bounds-row-at-2
bounds-row-at-2 c =
    let x = c in
    omega (arith, x.requires.1, length-set x.args.row.now x.args.at x.args.father)

pub returns : goal.returns
returns c =
    let x = c in
    rw (← c.depth_in-depth.ensures) (two_stores x.args.row.now x.args.at x.args.father c.depth_in-depth.result x.requires.1)
