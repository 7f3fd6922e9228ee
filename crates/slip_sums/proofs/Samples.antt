-- The worked cases compute.
use mathlib.Core.Path.{refl}
use Rattle.slip_sums.specs.Samples.{Samples}

pub samples : Samples
samples = record { empty = refl; five = refl; six = refl; eight = refl; turned_round = refl; in_order = refl; passes = refl; one_more = refl; exchanged = refl; byte_zero_lem = refl; byte_255 = refl; two-bits = refl; for_two_bits = refl }
