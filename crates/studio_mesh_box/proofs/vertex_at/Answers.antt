-- Axis by axis.
use Rattle.studio_mesh_box.specs.Vertices.{vertex_at}
use Rattle.studio_mesh_box.proofs.vertex_at.Goals as goal

pub returns : goal.returns
unfolding vertex_at
returns c = cc
