-- The loop's invariant: the names are alike exactly where their first k bytes are.
use Rattle.stick_names.proofs.Alike.{AlikeFor}
use Rattle.stick_names.proofs.equal_names.Given as goal

abbrev pub invariant-loop-k : goal.invariant-loop-k
invariant-loop-k l = AlikeFor l.name l.other l.k
