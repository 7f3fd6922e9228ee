-- The mesh of a number in an accepted file.
use Prim.Native.Nat.{◌-◌}
use lib.ListN.{length}
use Rattle.cob_tables.proofs.Finding.{Finding}
use Rattle.cob_tables.proofs.find_mesh.Given as goal

abbrev pub invariant-loop-next : goal.invariant-loop-next
invariant-loop-next l = Finding l.file l.mesh l.at l.n

abbrev pub decreases-loop-next : goal.decreases-loop-next
decreases-loop-next l = length l.file - l.at
