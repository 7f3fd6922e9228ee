-- The loop's invariant: what is left of the walk answers for the whole.
use Prim.Native.Nat.{◌-◌}
use Rattle.c4d_materials.proofs.Loop.{On}
use Rattle.c4d_materials.proofs.materials.Given as goal

abbrev pub invariant-loop-at : goal.invariant-loop-at
invariant-loop-at l = On l.file l.chunk l.to l.at l.ended l.nexts

abbrev pub decreases-loop-at : goal.decreases-loop-at
decreases-loop-at l = l.to - l.at
