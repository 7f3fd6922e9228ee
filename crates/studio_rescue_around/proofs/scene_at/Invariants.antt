-- The loop's invariant: where 3D3D stands is told by the bytes from the position reached on.
use mathlib.Core.Path.{◌≡◌}
use Prim.Native.Nat.{◌+◌, ◌-◌, ◌≤◌}
use lib.ListN.{length, drop}
use Rattle.studio_rescue_around.specs.Around.{ahead}
use Rattle.studio_rescue_around.proofs.scene_at.Given as goal

abbrev pub invariant-loop-at : goal.invariant-loop-at
invariant-loop-at l = (l.at ≤ length l.file) × (6 + ahead 6 (drop 6 l.file) ≡ l.at + ahead l.at (drop l.at l.file))

abbrev pub decreases-loop-at : goal.decreases-loop-at
decreases-loop-at l = l.end - l.at
