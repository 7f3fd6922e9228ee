use native.Mathlib.Omega.{arith}
use Rattle.shared_labels.proofs.Faults.{fault_past}
use Rattle.shared_labels.proofs.skip_blocks.Goals as goal

pub loop-i-preserved : goal.loop-i-preserved
loop-i-preserved c =
    let x = c in
    let l = c.loop-i in
    let r = fault_past x.args.s.now 16 l.i x.args.end (c.all_printable.ensures c.if-not-all_printable.false) (omega arith) x.requires.1 in
    let h = l.invariant in
    record { from = omega arith; to = omega arith; on = omega (arith, h.on, r) }
