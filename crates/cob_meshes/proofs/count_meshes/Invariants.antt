-- How many meshes an accepted file has.
use Prim.Native.Nat.{◌-◌}
use lib.ListN.{length}
use Rattle.cob_meshes.proofs.Passed.{Counting}
use Rattle.cob_meshes.proofs.count_meshes.Given as goal

abbrev pub invariant-loop-n : goal.invariant-loop-n
invariant-loop-n l = Counting l.file l.at l.n

abbrev pub decreases-loop-n : goal.decreases-loop-n
decreases-loop-n l = length l.file - l.at
