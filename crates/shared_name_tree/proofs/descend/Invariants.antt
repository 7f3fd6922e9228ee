-- The loop's invariant: the search has come to node k. Links rise, so what is left of the nodes falls.
use Prim.Native.Nat.{◌-◌}
use Rattle.shared_tree.specs.Tree.{Comes}
use Rattle.shared_name_tree.specs.Names.{way, tree_in}
use Rattle.shared_name_tree.proofs.descend.Given as goal

abbrev pub invariant-loop-turn : goal.invariant-loop-turn
invariant-loop-turn l = Comes way (tree_in l.names l.nodes) l.count l.name l.k l.turn

abbrev pub decreases-loop-turn : goal.decreases-loop-turn
decreases-loop-turn l = l.count - l.k
