-- The loop's invariant: the sub-chunks so far, and what is left of the OBJ5.
use Prim.Native.Nat.{◌-◌}
use Rattle.c4d_blocks.specs.Headers.{Headed}
use Rattle.c4d_held.specs.Held.{last_of}
use Rattle.c4d_object.proofs.Reading.{Reading}
use Rattle.c4d_object.proofs.object.Given as goal

abbrev pub invariant-loop-at : goal.invariant-loop-at
invariant-loop-at l =
    Reading l.file (last_of l.below) l.chunk l.from l.to l.row l.initial.notes l.notes l.at l.held l.textures × Headed l.file l.at l.to l.head

abbrev pub decreases-loop-at : goal.decreases-loop-at
decreases-loop-at l = l.to - l.at
