-- The worked numbers, by computation.
use mathlib.Core.Path.{refl}
use lib.Count.{count_trailing_zeros}
use lib.Ieee.{span, climb, size, odd, units, round, of_fields, of_bits, to_bits}
use Rattle.c_answers.specs.Samples.{Worked}

pub worked : Worked
unfolding span climb size odd units round of_fields of_bits to_bits count_trailing_zeros
worked = record { counts = refl; no_room = refl; name = refl; no-mesh = refl; around = refl }
