-- The loop's invariant: the bytes before i are printable; one that is not is the first fault.
use Rattle.shared_labels.specs.Passed.{FitsOn}
use Rattle.shared_labels.proofs.printable_size.Given as goal

abbrev pub invariant-loop-i : goal.invariant-loop-i
invariant-loop-i l = FitsOn l.s l.at l.i l.end
