-- The loop's invariant: after n entries, whose names are in the tree, what is left of the walk answers for the whole.
use mathlib.Core.Path.{◌≡◌}
use Prim.Native.Nat.{◌-◌}
use lib.ListN.{length}
use Rattle.slip_seen.specs.Seen.{Seen}
use Rattle.slip_check.specs.Entries.{names_in}
use Rattle.slip_check.proofs.Walks.{On}
use Rattle.slip_check.proofs.walk_entries.Given as goal

abbrev pub invariant-loop-n : goal.invariant-loop-n
invariant-loop-n l = On l.s l.count l.n l.at × Seen l.s l.nodes l.n (names_in l.n l.s 7) × (length l.nodes ≡ length l.initial.nodes)
