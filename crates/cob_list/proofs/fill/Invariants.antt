-- Puts the records of an accepted file.
use Rattle.cob_list.proofs.Rounds.{Round}
use Rattle.cob_list.proofs.fill.Given as goal

abbrev pub invariant-loop-k : goal.invariant-loop-k
invariant-loop-k l = Round l.file l.count l.ids l.links l.initial.up l.initial.row l.up l.row l.at l.to l.k
