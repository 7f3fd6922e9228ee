-- `studio_figure_chunks::put_groups` meets its contract: after i turns the first i groups are put.
use mathlib.Core.Path.{◌≡◌}
use Prim.Native.Nat.{◌+◌, ◌-◌, ◌*◌, ◌≤◌}
use lib.ListN.{length}
use Rattle.shared_numbers.specs.Put.{Put}
use Rattle.studio_figure_rules.specs.Given.{over}
use Rattle.studio_figure_rows.specs.Rows.{sum_to, run}
use Rattle.studio_figure_chunks.specs.Chunks.{group_bytes, group_in}
use Rattle.studio_figure_chunks.proofs.put_groups.Given as goal

abbrev pub invariant-loop-i : goal.invariant-loop-i
invariant-loop-i l = (length l.out ≡ length l.initial.out) × (l.label ≡ l.from + sum_to 2 0 l.groups (l.first + l.i)) × (l.place ≡ sum_to 2 1 l.groups (l.first + l.i)) ×
    (l.next + (sum_to 2 0 l.groups l.first + 2 * sum_to 2 1 l.groups l.first) ≡ l.at + (9 * l.i + sum_to 2 0 l.groups (l.first + l.i) + 2 * sum_to 2 1 l.groups (l.first + l.i))) ×
    Put l.initial.out l.at (over (λ j. group_bytes (group_in l.names l.groups l.faces l.from (l.first + j))) (run (λ j. j) 0 l.i)) l.out l.next
