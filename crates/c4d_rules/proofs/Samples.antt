-- The worked files, by computation.
use mathlib.Core.Path.{refl}
use borrow.Author.Tests.{lt-leb}
use lib.ListN.{length}
use Rattle.shared_words.specs.Refusals.{limit}
use Rattle.c4d_rules.specs.Kinds.{listed}
use Rattle.c4d_rules.specs.Combinations.{holds, combination, once_each, combined}
use Rattle.shared_words.specs.Lists.{every}
use Rattle.shared_words.specs.Conditions.{broken}
use Rattle.c4d_rules.specs.Read.{block_at, walk}
use Rattle.c4d_rules.specs.Walk.{verdict}
use Rattle.c4d_rules.specs.Calls.{objects_call}
use Rattle.c4d_rules.specs.Samples.{Samples}

pub samples : Samples
unfolding every listed once_each holds combination combined broken block_at walk verdict objects_call
samples = record {
  smallest = refl;
  three-combinations = refl;
  empty-objects = refl;
  one-too_long = λ s h. rw (lt-leb (length s) limit h);
  twenty_five_letters = refl;
  twenty_five_size = refl;
  five_header = refl;
  five_size = refl;
  five_after_end = refl;
  ten_texture = refl;
  ten_outside = refl;
  twenty_six_platform = refl;
  twenty_six_objects_first = refl;
  twenty_six_twice = refl;
  twenty_six_after_end = refl;
  twenty_six_no_end = refl;
  twenty_six_open = refl;
  twenty_six_two = refl;
  twenty_six_outside = refl;
  twenty_eight_above = refl;
  twenty_eight_negative = refl;
  twenty_eight_no_mat4 = refl;
  twenty_eight_before_twenty_seven = refl;
  twenty_seven_sphere = refl;
  twenty_seven_edges = refl;
  twenty_seven_hermite = refl;
  twenty_seven_repeat = refl;
  fifteen_objects = refl;
  fifteen_materials = refl;
}
