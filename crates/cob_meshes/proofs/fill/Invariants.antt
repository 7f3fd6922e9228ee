-- The meshes of an accepted file, chunk by chunk.
use Prim.Native.Nat.{◌-◌}
use lib.ListN.{length}
use Rattle.cob_meshes.proofs.Passed.{Filling}
use Rattle.cob_meshes.proofs.fill.Given as goal

abbrev pub invariant-loop-next : goal.invariant-loop-next
invariant-loop-next l = Filling l.file l.initial.row l.row l.at l.number l.to

abbrev pub decreases-loop-next : goal.decreases-loop-next
decreases-loop-next l = length l.file - l.at
