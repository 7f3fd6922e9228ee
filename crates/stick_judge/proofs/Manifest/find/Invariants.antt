-- The invariant: no entry before o belongs to the path.
use Rattle.stick_judge.proofs.Finding.{Seeks}
use Rattle.stick_judge.proofs.Manifest.find.Given as goal

abbrev pub invariant-loop-k : goal.invariant-loop-k
invariant-loop-k l = Seeks l.file l.self.slip.now l.path l.self.entries l.k l.o
