-- The loop's invariant: from the position reached on, the run has the same first chunk of the identifier.
use Prim.Native.Nat.{◌-◌}
use Rattle.studio_rules.specs.Layout.{Run}
use Rattle.studio_rules.specs.Rules.{Parent}
use Rattle.studio_child.specs.Runs.{Spans}
use Rattle.studio_child.proofs.Runs.{Reached}
use Rattle.studio_child.proofs.next_child.Given as goal

abbrev pub invariant-loop-o : goal.invariant-loop-o
invariant-loop-o l = (p : Parent) (t : Run) → Spans p t l.file l.at l.stop → Reached l.id p t l.file l.at l.stop l.o

abbrev pub decreases-loop-o : goal.decreases-loop-o
decreases-loop-o l = l.stop - l.o
