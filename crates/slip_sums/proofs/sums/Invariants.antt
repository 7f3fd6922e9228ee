-- The loop's invariant: the sums are those of the bytes passed. Remainders once a block keep every number small.
use mathlib.Core.Path.{◌≡◌}
use Prim.Native.Nat.{◌*◌, ◌/◌}
use lib.ListN.{length, take}
use Rattle.slip_sums.specs.Fletcher.{sum_of}
use Rattle.slip_sums.proofs.sums.Given as goal

abbrev pub invariant-loop-k : goal.invariant-loop-k
invariant-loop-k l =
    (l.blocks ≡ length l.file / 128) × (l.first ≡ (sum_of (take (128 * l.k) l.file)).first) × (l.second ≡ (sum_of (take (128 * l.k) l.file)).second)
