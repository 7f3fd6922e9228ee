-- After i turns the first i numbers are put.
use mathlib.Core.Path.{◌≡◌}
use Prim.Native.Nat.{◌+◌}
use lib.ListN.{length, take}
use Rattle.shared_numbers.specs.Put.{Put}
use Rattle.studio_figure_rules.specs.Given.{over}
use Rattle.studio_figure_chunks.proofs.put_numbers.Given as goal

abbrev pub invariant-loop-x : goal.invariant-loop-x
invariant-loop-x g l = (length l.out ≡ length l.initial.out) × (l.next ≡ l.at + length (over g.N.Number.bytes (take l.x-index l.row))) ×
    Put l.initial.out l.at (over g.N.Number.bytes (take l.x-index l.row)) l.out l.next
