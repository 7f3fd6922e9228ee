-- `studio_figure_bytes::put_objects` meets its contract: after i turns the first i objects are put.
use mathlib.Core.Path.{◌≡◌}
use Prim.Native.Nat.{ℕ, ◌+◌}
use lib.ListN.{length}
use Rattle.shared_numbers.specs.Put.{Put}
use Rattle.studio_figure_rules.specs.Given.{over}
use Rattle.shared_words.specs.Lists.{total}
use Rattle.studio_figure_rows.specs.Rows.{run}
use Rattle.studio_figure_objects.specs.Sizes.{object_bytes}
use Rattle.studio_figure_bytes.specs.Objects.{At, pieces}
use Rattle.studio_figure_bytes.proofs.put_objects.Given as goal

abbrev pub invariant-loop-i : goal.invariant-loop-i
invariant-loop-i l = (length l.out ≡ length l.initial.out) × At l.rows.objects.now l.rows.groups.now l.from l.i l.p × (l.next ≡ l.at + total (object_bytes l.rows.objects.now l.rows.groups.now) (run (λ (k : ℕ). k) 0 l.i)) × Put l.initial.out l.at
    (over (pieces l.rows.names.now l.rows.objects.now l.rows.vertices.now l.rows.corners.now l.rows.smoothing.now l.rows.groups.now l.rows.faces.now l.from) (run (λ (k : ℕ). k) 0 l.i)) l.out l.next
