-- Axis by axis.
use Rattle.studio_mesh_box.proofs.centre_of.Goals as goal

pub returns : goal.returns
returns c = cc
