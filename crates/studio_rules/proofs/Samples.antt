-- P1 to P12 and the worked readings, by computation.
use mathlib.Core.Path.{refl}
use lib.Count.{count_trailing_zeros}
use lib.Ieee.{span, climb, size, odd, units, round, sum, add, mul, lt, of_fields, of_bits}
use Rattle.shared_words.specs.Lists.{every}
use Rattle.studio_rules.specs.Table.{rows, at_most_one_ids, at_least_one_ids, listed, under, shape, plus, limits, needs}
use Rattle.shared_words.specs.Floats.{finite}
use Rattle.shared_words.specs.Labels.{fits_label}
use Rattle.shared_words.specs.Conditions.{broken}
use Rattle.studio_rules.specs.Walk.{step, walk, version_in, verdict}
use Rattle.studio_rules.specs.Box.{coordinate, lesser, greater, lowest, highest, middle}
use Rattle.studio_rules.specs.Calls.{check_call, list_call, name_call, box_call}
use Rattle.studio_rules.specs.Samples.{Samples}
use Rattle.studio_rules.specs.Readings.{Readings, Worked, Mappings}

pub samples : Samples
unfolding every rows at_most_one_ids at_least_one_ids listed under shape plus limits needs finite fits_label broken step walk version_in verdict check_call list_call name_call box_call coordinate lesser greater lowest highest middle span climb size odd units round sum add mul lt of_fields of_bits count_trailing_zeros
samples = record {
  p1_to_p12 = refl;
  p8_list = refl;
  p8_name = refl;
  p8_one_mesh = refl;
  p8_box = refl;
  p8_tables = refl;
  p12-length = refl;
  p12-list = refl;
  p12-tables = refl;
}

pub readings : Readings
unfolding every rows at_most_one_ids at_least_one_ids listed under shape plus limits needs finite fits_label broken step walk version_in verdict check_call
readings = refl

pub mappings : Mappings
unfolding every rows at_most_one_ids at_least_one_ids listed under shape plus limits needs finite fits_label broken step walk version_in verdict
mappings = refl

pub worked : Worked
unfolding every rows at_most_one_ids at_least_one_ids listed under shape plus limits needs finite fits_label broken step walk version_in verdict
worked = record { tree = refl }
