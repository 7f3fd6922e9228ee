-- The invariant: the first k entries are met.
use Rattle.stick_judge.proofs.Going.{Passed}
use Rattle.stick_judge.proofs.judge_entries.Given as goal

abbrev pub invariant-loop-k : goal.invariant-loop-k
invariant-loop-k l = Passed l.n l.matched l.k
