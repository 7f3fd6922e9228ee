-- Whether the corners of so many faces are.
use Prim.Native.Nat.{◌-◌}
use Rattle.cob_mesh.proofs.Below.{Passed}
use Rattle.cob_mesh.proofs.faces_below.Given as goal

abbrev pub invariant-loop : goal.invariant-loop
invariant-loop l = Passed l.vertices l.textures l.s l.at l.count l.o (l.count - l.counter)
