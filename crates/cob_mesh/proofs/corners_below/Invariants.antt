-- Whether the corners at a position are below the counts of vertices and of texture vertices.
use Prim.Native.Nat.{◌+◌, ◌-◌, ◌*◌}
use lib.ListN.{drop}
use mathlib.Core.Path.{◌≡◌}
use Rattle.cob_mesh.specs.Laid.{all_corners}
use Rattle.cob_mesh.proofs.corners_below.Given as goal

abbrev pub invariant-loop-i : goal.invariant-loop-i
invariant-loop-i l = all_corners l.vertices l.textures l.count (drop l.at l.s) ≡ all_corners l.vertices l.textures (l.count - l.i) (drop (l.at + 8 * l.i) l.s)
