-- Two products and one sum, as `middle` has them.
use mathlib.Core.Path.{refl}
use Rattle.studio_rules.specs.Box.{middle}
use Rattle.studio_mesh_box.proofs.half_sum.Goals as goal

pub returns : goal.returns
unfolding middle
returns c = refl
