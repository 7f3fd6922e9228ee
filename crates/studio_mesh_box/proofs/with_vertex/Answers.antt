-- Axis by axis.
use Rattle.studio_mesh_box.specs.Vertices.{widened}
use Rattle.studio_mesh_box.proofs.with_vertex.Goals as goal

pub returns : goal.returns
unfolding widened
returns c = cc
