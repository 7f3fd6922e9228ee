-- The corners of all of them, into the front of a row.
use Prim.Native.Nat.{◌-◌}
use Rattle.cob_tables.proofs.Faces.{Filling}
use Rattle.cob_tables.proofs.fill_corners.Given as goal

abbrev pub invariant-loop-i : goal.invariant-loop-i
invariant-loop-i l = Filling l.s l.at l.count l.initial.row l.row l.o (l.count - l.i) l.to
