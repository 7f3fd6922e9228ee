-- The loop's invariant: what the children that are left give stands where it will be put.
use Prim.Native.Nat.{◌-◌, ◌≤◌}
use lib.ListN.{length}
use Rattle.studio_rescue_sift.proofs.Filling.{Filling}
use Rattle.studio_rescue_sift.proofs.fill.Given as goal

abbrev pub invariant-loop-child : goal.invariant-loop-child
invariant-loop-child w =
    (l : w.to ≤ length w.file) → Filling w.version w.file w.from w.to l w.initial.cuts w.at w.initial.out w.cuts w.out w.child w.row w.next

abbrev pub decreases-loop-child : goal.decreases-loop-child
decreases-loop-child l = l.to - l.child
