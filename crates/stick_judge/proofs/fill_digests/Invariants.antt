-- The invariant: the digests of the first k entries stand there.
use Rattle.stick_judge.proofs.Digesting.{Filled}
use Rattle.stick_judge.proofs.fill_digests.Given as goal

abbrev pub invariant-loop-k : goal.invariant-loop-k
invariant-loop-k l = Filled l.slip l.entries l.initial.digests l.digests l.k l.o
