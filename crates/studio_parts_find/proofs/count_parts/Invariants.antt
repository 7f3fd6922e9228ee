-- The loop's invariant: so many parts stand before the position.
use mathlib.Core.Path.{◌≡◌}
use mathlib.Core.List.{List}
use Prim.Native.Nat.{ℕ, ◌-◌}
use lib.ListN.{length}
use Rattle.studio_rules.specs.Layout.{Run, held}
use Rattle.studio_parts_find.specs.Parts.{PartsAt}
use Rattle.studio_parts_find.proofs.Before.{PartsBefore}
use Rattle.studio_parts_find.proofs.count_parts.Given as goal

abbrev pub invariant-loop-at : goal.invariant-loop-at
invariant-loop-at l = (kids : Run) (q : PartsAt l.file kids l.run.from l.run.stop) → (done : List ℕ) × (length done ≡ l.n) × PartsBefore q.p (held 0xB000 kids) l.file l.run.stop done l.at

abbrev pub decreases-loop-at : goal.decreases-loop-at
decreases-loop-at l = l.run.stop - l.at
