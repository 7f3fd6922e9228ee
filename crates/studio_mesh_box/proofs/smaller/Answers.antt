-- By the comparison.
use Rattle.studio_mesh_box.proofs.Box.{lesser-taken, lesser-left}
use Rattle.studio_mesh_box.proofs.smaller.Goals as goal

pub returns-then-b-a : goal.returns-then-b-a
returns-then-b-a c = lesser-taken _ _ c.if-b-a.true

pub returns-else-b-a : goal.returns-else-b-a
returns-else-b-a c = lesser-left _ _ c.if-b-a.false
