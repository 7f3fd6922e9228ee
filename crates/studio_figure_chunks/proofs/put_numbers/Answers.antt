use native.Mathlib.Omega.{arith}
use lib.ListN.{take, length-append}
use Rattle.shared_numbers.proofs.Put.{put_then}
use Rattle.studio_figure_rules.specs.Given.{over}
use Rattle.studio_figure_chunks.proofs.Chunks.{over_more, over-room}
use Rattle.studio_figure_chunks.proofs.put_numbers.Goals as goal

pub put-next-requires : goal.put-next-requires
put-next-requires g c =
    let l = c.loop-x in
    omega (arith, over-room g.N.Number.bytes c.args.row.now l.x-index c.x-item.result (omega arith) c.x-item.is)

pub loop-x-preserved : goal.loop-x-preserved
loop-x-preserved g c =
    let l = c.loop-x in
    let give = g.N.Number.bytes in
    let row = c.args.row.now in
    let x = c.x-item.result in
    let e = over_more give row l.x-index x (omega arith) c.x-item.is in
    rw e (
      omega arith,
      omega (arith, c.put-next.ensures.ends, length-append (over give (take l.x-index row)) (give x)),
      put_then (omega arith) l.invariant.2 c.put-next.ensures,
    )
