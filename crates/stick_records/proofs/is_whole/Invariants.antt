-- The invariant: what is left of the names is what the items from i on must have listed.
use Prim.Native.Nat.{◌-◌}
use Rattle.stick_records.proofs.Walk.{Wholly}
use Rattle.stick_records.proofs.is_whole.Given as goal

abbrev pub invariant-loop-i : goal.invariant-loop-i
invariant-loop-i l = Wholly l.names l.items l.n l.left l.i
