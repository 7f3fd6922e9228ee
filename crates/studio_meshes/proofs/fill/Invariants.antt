-- The loop's invariant: what is wanted of the meshes of the objects passed stands at the row's front.
use Prim.Native.Nat.{◌-◌, ◌≤◌}
use lib.ListN.{length}
use Rattle.studio_rules.specs.Layout.{Run}
use Rattle.studio_meshes_rules.specs.Standing.{standing}
use Rattle.studio_mesh_find.specs.Runs.{ObjectsAt}
use Rattle.studio_meshes.proofs.Filling.{Filling}
use Rattle.studio_meshes.proofs.fill.Given as goal

abbrev pub invariant-loop-at : goal.invariant-loop-at
invariant-loop-at g l =
    (kids : Run) (q : ObjectsAt l.file kids l.objects.from l.objects.stop) → length (g.W.Wanted.bytes (standing kids)) ≤ length l.initial.row → Filling l.file kids l.objects.from l.objects.stop q g.W.Wanted.bytes l.initial.row l.row l.next l.at

abbrev pub decreases-loop-at : goal.decreases-loop-at
decreases-loop-at g l = l.objects.stop - l.at
