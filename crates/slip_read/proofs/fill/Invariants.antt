-- The loop's invariant: the row, with what is left put in too, is the row wanted.
use Prim.Native.Nat.{◌-◌}
use Rattle.slip_read.proofs.Rows.{Filling}
use Rattle.slip_read.proofs.fill.Given as goal

abbrev pub invariant-loop : goal.invariant-loop
invariant-loop l = Filling l.s l.count l.initial.row l.row (l.count - l.counter) l.o l.at
