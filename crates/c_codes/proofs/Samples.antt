-- The worked numbers, by computation.
use mathlib.Core.Path.{refl}
use Rattle.c_codes.specs.Samples.{Worked}

pub worked : Worked
worked = record {
  too_long = refl;
  p5 = refl;
  last_byte = refl;
  no-material = refl;
  changed = refl;
  largest = refl;
  one_more = refl;
  six_records_lem = refl;
  p11 = refl;
  three_and_one = refl;
  most = refl;
  six_numbers = refl;
  written = refl;
  no-room_to_write = refl;
}
