-- The loop's invariant: so many meshes stand in the objects passed.
use mathlib.Core.Path.{◌≡◌}
use mathlib.Core.List.{List}
use Prim.Native.Nat.{◌-◌}
use lib.ListN.{length}
use Rattle.studio_rules.specs.Layout.{Run}
use Rattle.studio_meshes_rules.specs.Standing.{Standing}
use Rattle.studio_mesh_find.specs.Runs.{ObjectsAt}
use Rattle.studio_meshes.proofs.Filling.{Before}
use Rattle.studio_meshes.proofs.count_meshes.Given as goal

abbrev pub invariant-loop-at : goal.invariant-loop-at
invariant-loop-at l = (kids : Run) (q : ObjectsAt l.file kids l.objects.from l.objects.stop) → (done : List Standing) × (length done ≡ l.n) × Before l.file kids l.objects.from l.objects.stop q done l.at

abbrev pub decreases-loop-at : goal.decreases-loop-at
decreases-loop-at l = l.objects.stop - l.at
