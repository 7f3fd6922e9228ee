-- The loop's invariant: the totals are those of the bytes passed.
use mathlib.Core.Path.{◌≡◌}
use Prim.Native.Nat.{◌*◌, ◌≤◌}
use lib.ListN.{take}
use Rattle.slip_sums.specs.Fletcher.{total}
use Rattle.slip_sums.proofs.Weighted.{weighted}
use Rattle.slip_sums.proofs.rest_totals.Given as goal

abbrev pub invariant-loop-b : goal.invariant-loop-b
invariant-loop-b l =
    (l.first ≡ total (take l.b-index l.s)) × (l.second ≡ weighted (take l.b-index l.s)) × (l.first ≤ 255 * l.b-index) × (l.second ≤ 255 * 128 * l.b-index)
