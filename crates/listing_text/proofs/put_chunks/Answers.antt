use mathlib.Core.Path.{◌≡◌}
use native.Mathlib.Omega.{arith}
use Rattle.shared_numbers.proofs.Put.{put-none, put_then}
use Rattle.listing_text.proofs.Rows.{lines_more}
use Rattle.listing_text.proofs.put_chunks.Goals as goal

pub loop-i-init : goal.loop-i-init
loop-i-init c = (omega arith, put-none _ _)

pub loop-i-preserved : goal.loop-i-preserved
loop-i-preserved c =
    let l = c.loop-i in
    let put = c.put_chunk-next.ensures in (
      omega arith,
      rw (lines_more c.args.row.now l.i) (put_then (omega arith) l.invariant.1 put.text),
    )

pub returns-clause-text : goal.returns-clause-text
returns-clause-text c =
    let l = c.loop-i in
    let all : l.i ≡ c.args.n = omega arith in
    rw all at l.invariant.1
