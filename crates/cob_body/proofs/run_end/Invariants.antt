-- So many faces and holes.
use Prim.Native.Nat.{◌-◌}
use Rattle.cob_body.proofs.Parts.{Passed}
use Rattle.cob_body.proofs.run_end.Given as goal

abbrev pub invariant-loop : goal.invariant-loop
invariant-loop l = Passed l.s l.at l.n l.o (l.n - l.counter)
