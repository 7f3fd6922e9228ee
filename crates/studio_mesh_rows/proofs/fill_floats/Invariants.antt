-- The loop's invariant: the floats passed are at the row's front.
use mathlib.Core.Path.{◌≡◌}
use mathlib.Core.List.{map}
use lib.ListN.{length, drop}
use Rattle.shared_words.specs.Bytes.{numbers}
use Rattle.shared_words.specs.Floats.{float}
use Rattle.shared_words.specs.Effects.{filled}
use Rattle.studio_mesh_rows.proofs.fill_floats.Given as goal

abbrev pub invariant-loop-i : goal.invariant-loop-i
invariant-loop-i l = (length l.row ≡ length l.initial.row) × (l.row ≡ filled (map float (numbers 4 l.i (drop l.at l.s))) l.initial.row)
