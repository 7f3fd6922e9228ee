-- The worked boxes, by computation.
use mathlib.Core.Path.{refl}
use lib.Count.{count_trailing_zeros}
use lib.Ieee.{span, climb, size, odd, units, round, sum, add, mul, lt, of_fields, of_bits}
use Rattle.studio_rules.specs.Box.{coordinate, lesser, greater, lowest, highest, middle}
use Rattle.studio_mesh_box.specs.Samples.{Worked}

pub worked : Worked
unfolding coordinate lesser greater lowest highest middle span climb size odd units round sum add mul lt of_fields of_bits count_trailing_zeros
worked = record { negatives = refl; centre = refl; halves = refl }
