-- The loop's invariant: the corners of the faces passed are at the row's front.
use mathlib.Core.Path.{◌≡◌}
use lib.ListN.{length, drop}
use Rattle.studio_rules.specs.OwnData.{corners}
use Rattle.shared_words.specs.Effects.{filled}
use Rattle.studio_mesh_rows.proofs.fill_corners.Given as goal

abbrev pub invariant-loop-i : goal.invariant-loop-i
invariant-loop-i l = (length l.row ≡ length l.initial.row) × (l.row ≡ filled (corners l.i (drop l.at l.s)) l.initial.row)
