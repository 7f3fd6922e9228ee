-- The loop's invariant: the names of the first i rows fit the label.
use Prim.Native.Nat.{◌-◌}
use Rattle.slip_write_judge.proofs.Labels.{On}
use Rattle.slip_write_judge.proofs.first_unfit.Given as goal

abbrev pub invariant-loop-i : goal.invariant-loop-i
invariant-loop-i l = On l.names l.entries l.n l.i
