-- The loop's invariant: the search has come to `at`. Links rise, so what is left of the nodes falls.
use Prim.Native.Nat.{◌-◌}
use Rattle.shared_tree.specs.Tree.{Comes}
use Rattle.cob_seen.specs.Tree.{bits, tree_in}
use Rattle.cob_seen.proofs.descend.Given as goal

abbrev pub invariant-loop-at : goal.invariant-loop-at
invariant-loop-at l = Comes bits (tree_in l.ids l.links) l.count l.x l.at l.rest

abbrev pub decreases-loop-at : goal.decreases-loop-at
decreases-loop-at l = l.count - l.at
