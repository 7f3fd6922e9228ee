-- By the comparison.
use Rattle.studio_mesh_box.proofs.Box.{greater-taken, greater-left}
use Rattle.studio_mesh_box.proofs.larger.Goals as goal

pub returns-then-a-b : goal.returns-then-a-b
returns-then-a-b c = greater-taken _ _ c.if-a-b.true

pub returns-else-a-b : goal.returns-else-a-b
returns-else-a-b c = greater-left _ _ c.if-a-b.false
