-- The loop's invariant: the first sum is that of the bytes passed, the second is ahead of their running sums. A byte counted at
-- most 128 times is at most 255 * 128, so 16 bits hold it, and both sums of 128 digits of such numbers.
use mathlib.Core.Path.{◌≡◌}
use Prim.Native.Nat.{◌+◌, ◌*◌, ◌≤◌}
use lib.ListN.{take}
use Rattle.slip_sums.specs.Fletcher.{total}
use Rattle.slip_sums.proofs.Steps.{ahead}
use Rattle.slip_sums.proofs.block_totals.Given as goal

abbrev pub invariant-loop-i : goal.invariant-loop-i
invariant-loop-i l =
    (l.first ≡ total (take l.i l.s)) × (256 * l.high + l.low ≡ ahead 128 l.i l.s) ×
    (l.first ≤ 255 * l.i) × (l.high ≤ 255 * l.i) × (l.low ≤ 255 * l.i) × (256 * l.high + l.low ≤ 255 * 128 * l.i)
