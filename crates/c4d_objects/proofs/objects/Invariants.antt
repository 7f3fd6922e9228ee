-- The loop's invariant: the objects so far, and what is left of the OBJ5.
use Prim.Native.Nat.{◌-◌}
use Rattle.c4d_blocks.specs.Headers.{Headed}
use Rattle.c4d_held.specs.Held.{last_of}
use Rattle.c4d_objects.proofs.Walking.{Walking}
use Rattle.c4d_objects.proofs.objects.Given as goal

abbrev pub invariant-loop-at : goal.invariant-loop-at
invariant-loop-at l =
    Walking l.file (last_of l.below) l.chunk l.to l.initial.notes l.notes l.at l.count l.textures l.row × Headed l.file l.at l.to l.head

abbrev pub decreases-loop-at : goal.decreases-loop-at
decreases-loop-at l = l.to - l.at
