use mathlib.Core.Path.{◌≡◌, refl, sym, ap, ◌∙◌}
use Prim.Native.Nat.{◌+◌, ◌*◌, ◌-◌, ◌/◌}
use native.Mathlib.Omega.{arith}
use lib.ListN.{length}
use lib.Seq.{take-length}
use Rattle.slip_sums.specs.Fletcher.{sum_of}
use Rattle.slip_sums.proofs.Remainders.{sum_same}
use Rattle.slip_sums.proofs.Parts.{first_on, second-on}
use Rattle.slip_sums.proofs.sums.Goals as goal

pub loop-k-preserved : goal.loop-k-preserved
loop-k-preserved c =
    let s = c.args.file.now in
    let l = c.loop-k in
    let b = c.block_totals-block in
    let at = 128 * l.k in
    let end = at + 128 in
    let e : 128 * (l.k + 1) ≡ end = omega arith in
    rw e (
      l.invariant.0,
      first_on s at end (omega arith) (omega arith) b.result.first b.result.second b.ensures l.first l.invariant.1,
      second-on s at end (omega arith) (omega arith) b.result.first b.result.second b.ensures 128 l.first l.second (omega arith) l.invariant.1 l.invariant.2,
    )

pub returns : goal.returns
returns c =
    let s = c.args.file.now in
    let l = c.loop-k in
    let r = c.rest_totals-rest in
    let at = 128 * (length s / 128) in
    let e : 128 * l.k ≡ at = omega (arith, l.invariant.0) in
    let i = rw e at l.invariant in
    sum_same
    (sym (ap length (take-length s)))
    (first_on s at (length s) (omega arith) (omega arith) r.result.first r.result.second r.ensures l.first i.1)
    (second-on s at (length s) (omega arith) (omega arith) r.result.first r.result.second r.ensures (length s - at) l.first l.second refl i.1 i.2) ∙
    ap sum_of (take-length s)
