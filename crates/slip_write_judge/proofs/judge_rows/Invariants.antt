-- The loop's invariant: after i good rows, whose names are in the tree, what is left of the conditions answers for all.
use mathlib.Core.Path.{◌≡◌}
use Prim.Native.Nat.{◌-◌, ◌/◌}
use lib.ListN.{length}
use Rattle.slip_seen.specs.Seen.{Seen}
use Rattle.slip_write_judge.specs.Rows.{names_from}
use Rattle.slip_write_judge.proofs.Judging.{On}
use Rattle.slip_write_judge.proofs.judge_rows.Given as goal

abbrev pub invariant-loop-i : goal.invariant-loop-i
invariant-loop-i l =
    (l.n ≡ length l.entries / 16) × On l.names l.entries l.n l.size l.i × Seen l.names l.nodes l.i (names_from l.names l.i l.entries 0) × (length l.nodes ≡ length l.initial.nodes)
