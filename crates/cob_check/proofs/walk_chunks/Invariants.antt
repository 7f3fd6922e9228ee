-- The walk over the chunks, up to END and the end of the file.
use Prim.Native.Nat.{◌-◌}
use lib.ListN.{length}
use mathlib.Core.Path.{◌≡◌}
use Rattle.cob_check.proofs.Reached.{Reached}
use Rattle.cob_check.proofs.walk_chunks.Given as goal

abbrev pub invariant-loop-at : goal.invariant-loop-at
invariant-loop-at l = Reached l.file l.at l.count l.records l.ids l.links × (length l.ids ≡ length l.initial.ids) × (length l.links ≡ length l.initial.links)

abbrev pub decreases-loop-at : goal.decreases-loop-at
decreases-loop-at l = length l.file - l.at
