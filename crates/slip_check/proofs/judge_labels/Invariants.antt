-- The loop's invariant: after some names that fit, the conditions of the rest answer for all.
use Prim.Native.Nat.{◌-◌}
use Rattle.slip_check.proofs.Labels.{On}
use Rattle.slip_check.proofs.judge_labels.Given as goal

abbrev pub invariant-loop : goal.invariant-loop
invariant-loop l = On l.s l.count (l.count - l.counter) l.o
