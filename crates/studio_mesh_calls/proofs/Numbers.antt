-- The numbers of a box and its centre are numbers, whatever is asked of them later.
use mathlib.Core.Path.{◌≡◌}
use mathlib.Core.Bool.{true}
use mathlib.Core.List.{List}
use Prim.Native.Nat.{ℕ}
use Rattle.studio_rules.specs.declared.Corner.{Corner}
use Rattle.studio_rules.specs.declared.BoundingBox.{BoundingBox}
use Rattle.shared_words.specs.Lists.{every}
use Rattle.shared_words.specs.Floats.{finite}
use Rattle.studio_rules.specs.Box.{bounding_box_of, centre_of}
use Rattle.studio_rules.specs.Within.{BoxNumbers}
use Rattle.studio_mesh_box.proofs.FiniteBox.{box-is-finite}
use Rattle.studio_rules.specs.Calls.{box_answer}

pub box-numbers : (n : ℕ) (vertices : List ℕ) → every finite vertices ≡ true → {box : BoundingBox} {centre : Corner} → box ≡ bounding_box_of n vertices → centre ≡ centre_of box → BoxNumbers (box_answer box centre)
box-numbers n vertices h e f =
    let q = box-is-finite n vertices h in
    rw (f, e) (q.low, q.high, q.centre)
