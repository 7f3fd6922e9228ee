-- `studio_figure_chunks::put_materials` meets its contract: after i turns the first i materials are put.
use mathlib.Core.Path.{◌≡◌}
use Prim.Native.Nat.{◌+◌, ◌-◌, ◌*◌, ◌≤◌}
use lib.ListN.{length}
use Rattle.shared_numbers.specs.Put.{Put}
use Rattle.studio_figure_rules.specs.Given.{over}
use Rattle.studio_figure_rows.specs.Rows.{sum_to, run}
use Rattle.studio_figure_chunks.specs.Chunks.{material_bytes, material_in}
use Rattle.studio_figure_chunks.proofs.put_materials.Given as goal

abbrev pub invariant-loop-i : goal.invariant-loop-i
invariant-loop-i l = (length l.out ≡ length l.initial.out) × (l.label ≡ l.first + sum_to 1 0 l.materials l.i) × (l.next ≡ l.at + (58 * l.i + sum_to 1 0 l.materials l.i)) × Put l.initial.out l.at
    (over material_bytes (run (material_in l.names l.materials l.colours l.first) 0 l.i)) l.out l.next
