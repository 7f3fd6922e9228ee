-- The loop's invariant: the corners of the faces passed are at the row's front.
use mathlib.Core.Path.{◌≡◌}
use Prim.Native.Nat.{◌*◌}
use lib.ListN.{length, drop}
use Rattle.shared_words.specs.Bytes.{packed}
use Rattle.studio_rules.specs.OwnData.{corners}
use Rattle.shared_numbers.specs.Put.{Put}
use Rattle.studio_mesh_rows.proofs.fill_corner_bytes.Given as goal

abbrev pub invariant-loop-i : goal.invariant-loop-i
invariant-loop-i l = (length l.row ≡ length l.initial.row) × (l.next ≡ 6 * l.i) × Put l.initial.row 0 (packed 2 (corners l.i (drop l.at l.s))) l.row l.next
