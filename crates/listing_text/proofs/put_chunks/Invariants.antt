-- After i turns the lines of the first i records are put.
use Prim.Native.Nat.{◌+◌, ◌*◌, ◌≤◌}
use Rattle.shared_numbers.specs.Put.{Put}
use Rattle.listing_text.specs.Lines.{row_lines}
use Rattle.listing_text.proofs.put_chunks.Given as goal

abbrev pub invariant-loop-i : goal.invariant-loop-i
invariant-loop-i l = (l.next ≤ l.at + 68 * l.i) × Put l.initial.out l.at (row_lines l.i l.row) l.out l.next
