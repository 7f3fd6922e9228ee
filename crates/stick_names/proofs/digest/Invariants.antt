-- The loop's invariant: what is left of the name is taken in from d on.
use Rattle.stick_names.proofs.Digests.{Digests}
use Rattle.stick_names.proofs.digest.Given as goal

abbrev pub invariant-loop-b : goal.invariant-loop-b
invariant-loop-b l = Digests l.name l.d l.b-index
