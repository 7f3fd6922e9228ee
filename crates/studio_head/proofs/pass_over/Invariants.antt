-- The loop's invariant: what has been passed over so far.
use Prim.Native.Nat.{◌-◌}
use Rattle.studio_head.proofs.Passing.{Passed}
use Rattle.studio_head.proofs.pass_over.Given as goal

abbrev pub invariant-loop-o : goal.invariant-loop-o
invariant-loop-o l = Passed l.file l.at l.end l.o

abbrev pub decreases-loop-o : goal.decreases-loop-o
decreases-loop-o l = l.end - l.o
