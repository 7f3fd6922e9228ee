-- What is left to mix is mixed as all of it.
use Rattle.shared_name_tree.proofs.Way.{Mixing}
use Rattle.shared_name_tree.proofs.mix.Given as goal

abbrev pub invariant-loop-b : goal.invariant-loop-b
invariant-loop-b l = Mixing l.name l.m l.b-index
