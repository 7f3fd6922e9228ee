-- The worked numbers, by computation.
use mathlib.Core.Path.{refl}
use Rattle.shared_words.specs.Lists.{every}
use Rattle.shared_words.specs.Floats.{finite}
use Rattle.shared_words.specs.Labels.{fits_label}
use Rattle.shared_words.specs.Conditions.{broken}
use Rattle.shared_words.specs.Samples.{Worked}

pub worked : Worked
unfolding every finite fits_label broken
worked = record {
  room-is_15 = refl;
  sums_differ = refl;
  least_first = refl;
  highest-first = refl;
  read_least_first = refl;
  read-highest-first = refl;
  one-after-another = refl;
  two-numbers = refl;
  largest = refl;
  infinite = refl;
  minus_infinite = refl;
  not-a_number = refl;
  is_among = refl;
  longer_is_another = refl;
  first-broken = refl;
  rest-stays = refl;
  part-is-no-room = refl;
  empty-fits = refl;
  sixty_three_fit = refl;
  sixty_four = refl;
  thirty_one = refl;
  one-two-seven = refl;
  first-bad_byte = refl;
  lesser-is_63 = refl;
}
