-- The loop's invariant: the parts passed stand at the row's front.
use Prim.Native.Nat.{◌-◌, ◌/◌, ◌≤◌}
use lib.ListN.{length}
use Rattle.studio_rules.specs.Layout.{Run}
use Rattle.studio_rules.specs.Gives.{parts}
use Rattle.studio_parts_find.specs.Parts.{PartsAt}
use Rattle.studio_parts_fill.proofs.Ways.{as_bytes}
use Rattle.studio_parts_fill.proofs.Filling.{Filling}
use Rattle.studio_parts_fill.proofs.fill_bytes.Given as goal

abbrev pub invariant-loop-at : goal.invariant-loop-at
invariant-loop-at l = (kids : Run) (q : PartsAt l.file kids l.run.from l.run.stop) → length (parts kids) ≤ length l.initial.row / 8 → Filling as_bytes l.file kids l.run.from l.run.stop q l.initial.row l.row l.next l.at

abbrev pub decreases-loop-at : goal.decreases-loop-at
decreases-loop-at l = l.run.stop - l.at
