-- The loop's invariant: b is the box of the vertices passed.
use mathlib.Core.Path.{◌≡◌}
use Prim.Native.Nat.{◌*◌}
use lib.ListN.{drop}
use Rattle.shared_words.specs.Bytes.{numbers}
use Rattle.studio_rules.specs.Box.{bounding_box_of}
use Rattle.studio_mesh_box.proofs.box_of.Given as goal

abbrev pub invariant-loop-k : goal.invariant-loop-k
invariant-loop-k l = l.b ≡ bounding_box_of l.k (numbers 4 (3 * l.n) (drop l.at l.s))
