-- The loop's invariant: what the bytes from the position reached on tell is what the file tells.
use mathlib.Core.Path.{◌≡◌}
use Prim.Native.Nat.{◌-◌, ◌≤◌}
use lib.ListN.{drop}
use Rattle.studio_rules.specs.Walk.{version_in}
use Rattle.studio_version.proofs.version.Given as goal

abbrev pub invariant-loop-at : goal.invariant-loop-at
invariant-loop-at l = (6 ≤ l.at) × (version_in (drop 6 l.file) ≡ version_in (drop l.at l.file))

abbrev pub decreases-loop-at : goal.decreases-loop-at
decreases-loop-at l = l.end - l.at
