-- The loop's invariant: the cuts among the children that are left, and those counted, are all.
use Prim.Native.Nat.{◌-◌, ◌≤◌}
use lib.ListN.{length}
use Rattle.studio_rescue_sift.proofs.Filling.{Counting}
use Rattle.studio_rescue_sift.proofs.count.Given as goal

abbrev pub invariant-loop-at : goal.invariant-loop-at
invariant-loop-at w = (l : w.to ≤ length w.file) → Counting w.version w.file w.from w.to l w.at w.count w.gone

abbrev pub decreases-loop-at : goal.decreases-loop-at
decreases-loop-at l = l.to - l.at
