-- How many of so many faces are.
use Prim.Native.Nat.{◌-◌}
use Rattle.cob_tables.proofs.Faces.{Counted}
use Rattle.cob_tables.proofs.count_triangles.Given as goal

abbrev pub invariant-loop-i : goal.invariant-loop-i
invariant-loop-i l = Counted l.s l.at l.count l.o (l.count - l.i) l.n
