-- The loop's invariant: the names are the same exactly where what follows their first k blocks is.
use Prim.Native.Nat.{◌*◌}
use Rattle.shared_names.specs.Alike.{AlikeFor}
use Rattle.shared_names.proofs.same_blocks.Given as goal

abbrev pub invariant-loop-k : goal.invariant-loop-k
invariant-loop-k l = AlikeFor l.x l.y (4 * l.k)
