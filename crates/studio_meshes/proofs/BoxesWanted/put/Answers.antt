-- The box's nine numbers, and nothing behind them.
use Rattle.studio_meshes_rules.specs.Standing.{mesh_in}
use Rattle.studio_meshes.proofs.InRow.{put_boxed}
use Rattle.studio_meshes.proofs.BoxesWanted.put.Goals as goal

pub returns : goal.returns
returns c = λ m p e. put_boxed m (c.put_box.ensures (mesh_in m) p.vertex-count p.vertices_are)
