-- The loop's invariant: the bytes before i are printable.
use Prim.Native.Nat.{◌-◌}
use Rattle.shared_labels.specs.Passed.{FitsOn}
use Rattle.shared_labels.proofs.skip_blocks.Given as goal

abbrev pub invariant-loop-i : goal.invariant-loop-i
invariant-loop-i l = FitsOn l.s l.at l.i l.end

abbrev pub decreases-loop-i : goal.decreases-loop-i
decreases-loop-i l = l.end - l.i
