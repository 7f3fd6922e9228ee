-- The worked slips, by computation.
use mathlib.Core.Path.{refl}
use Rattle.shared_words.specs.Lists.{every}
use Rattle.shared_words.specs.Labels.{fits_label}
use Rattle.shared_words.specs.Conditions.{broken}
use Rattle.slip_rules.specs.Walk.{entry_at, verdict}
use Rattle.slip_rules.specs.Calls.{slip_read_call, slip_write_call}
use Rattle.slip_rules.specs.Samples.{Samples}

pub samples : Samples
unfolding every fits_label broken entry_at verdict slip_read_call slip_write_call
samples = record {
  empty-read = refl;
  two-read = refl;
  short = refl;
  version = refl;
  length-field = refl;
  count_large = refl;
  entry-missing = refl;
  left_over = refl;
  no_name = refl;
  entry-cut = refl;
  sum_255 = refl;
  name_twice = refl;
  text = refl;
  text-after-slip = refl;
  room_last = refl;
  two-written = refl;
  two-again = refl;
  outside-names = refl;
  sums_255 = refl;
  sums_large = refl;
  part-of-one = refl;
  twice_written = refl;
  text-written = refl;
  text-after-part = refl;
  room-written = refl;
}
