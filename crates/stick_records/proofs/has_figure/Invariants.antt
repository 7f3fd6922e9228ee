-- The invariant: some items are figures exactly where some from i on are.
use Prim.Native.Nat.{◌-◌}
use Rattle.stick_records.proofs.Walk.{Figures}
use Rattle.stick_records.proofs.has_figure.Given as goal

abbrev pub invariant-loop-i : goal.invariant-loop-i
invariant-loop-i l = Figures l.names l.items l.n l.i
