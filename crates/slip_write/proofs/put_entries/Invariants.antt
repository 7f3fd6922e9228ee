-- The loop's invariant: the first i entries are put, and there is room for those left.
use mathlib.Core.Path.{◌≡◌}
use Prim.Native.Nat.{◌-◌, ◌/◌}
use lib.ListN.{length}
use Rattle.slip_write.proofs.Rows.{Putting}
use Rattle.slip_write.proofs.put_entries.Given as goal

abbrev pub invariant-loop-i : goal.invariant-loop-i
invariant-loop-i l = (l.n ≡ length l.entries / 16) × Putting l.names l.entries l.n l.at l.initial.out l.out l.next l.i
