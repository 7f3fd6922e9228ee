-- The loop's invariant: the chunks so far, and what is left of the walk.
use Prim.Native.Nat.{◌-◌}
use lib.ListN.{length}
use Rattle.c4d_chunks.proofs.Loop.{On}
use Rattle.c4d_chunks.proofs.chunks.Given as goal

abbrev pub invariant-loop-at : goal.invariant-loop-at
invariant-loop-at l = On l.file l.initial.notes l.notes l.at l.state

abbrev pub decreases-loop-at : goal.decreases-loop-at
decreases-loop-at l = length l.file - l.at
