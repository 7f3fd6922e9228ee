-- The loop's invariant: so many meshes stand in the objects passed, and at the position the next object.
use mathlib.Core.Path.{◌≡◌}
use mathlib.Core.List.{List}
use lib.ListN.{length}
use Prim.Native.Nat.{ℕ, ◌-◌, ◌≤◌}
use Rattle.studio_rules.specs.Layout.{Run}
use Rattle.studio_rules.specs.Rules.{Parent}
use Rattle.studio_meshes_rules.specs.Standing.{Standing}
use Rattle.studio_child.specs.Runs.{Spans}
use Rattle.studio_mesh_find.proofs.Meshes.{MeshesBefore}
use Rattle.studio_mesh_find.proofs.find_among.Given as goal

abbrev pub invariant-loop-at : goal.invariant-loop-at
invariant-loop-at l =
    (l.before ≤ l.mesh) × ((p : Parent) (t : Run) (a n : ℕ) → p.id ≡ 0x3D3D → Spans p t l.file l.objects.from l.objects.stop → (done : List Standing) × (length done ≡ l.before) × MeshesBefore p t l.file l.objects.from l.objects.stop a n done l.at)

abbrev pub decreases-loop-at : goal.decreases-loop-at
decreases-loop-at l = l.objects.stop - l.at
