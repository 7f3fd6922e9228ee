-- The loop's invariant: the value stands from the first position to the one reached.
use mathlib.Core.Path.{◌≡◌}
use lib.ListN.{length}
use Rattle.studio_mesh_pairs.proofs.Zeros.{zeroed}
use Rattle.studio_mesh_pairs.proofs.fill.Given as goal

abbrev pub invariant-loop-i : goal.invariant-loop-i
invariant-loop-i g l = (length l.row ≡ length l.initial.row) × (l.row ≡ zeroed l.value l.from l.i l.initial.row)
