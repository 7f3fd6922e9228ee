-- The loop's invariant: the names are the same exactly where what follows their first i bytes is.
use Rattle.shared_names.specs.Alike.{AlikeFor}
use Rattle.shared_names.proofs.same_bytes.Given as goal

abbrev pub invariant-loop-i : goal.invariant-loop-i
invariant-loop-i l = AlikeFor l.x l.y l.i
