-- The loop's invariant: `good` says whether the corners of the faces passed are below the limit.
use mathlib.Core.Path.{◌≡◌}
use lib.ListN.{drop}
use Rattle.studio_rules.specs.OwnData.{corners}
use Rattle.studio_rules.specs.Rules.{all_below}
use Rattle.studio_scan.proofs.corners_below.Given as goal

abbrev pub invariant-loop-i : goal.invariant-loop-i
invariant-loop-i l = l.good ≡ all_below l.limit (corners l.i (drop l.at l.s))
