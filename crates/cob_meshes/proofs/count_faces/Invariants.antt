-- How many of so many faces and holes are faces.
use Prim.Native.Nat.{◌-◌}
use Rattle.cob_meshes.proofs.Faces.{Counted}
use Rattle.cob_meshes.proofs.count_faces.Given as goal

abbrev pub invariant-loop : goal.invariant-loop
invariant-loop l = Counted l.s l.at l.count l.o (l.count - l.counter) l.n
