-- The worked files, by computation.
use mathlib.Core.Path.{refl}
use borrow.Author.Tests.{lt-leb}
use lib.ListN.{length}
use Rattle.shared_words.specs.Lists.{every}
use Rattle.shared_words.specs.Floats.{finite}
use Rattle.shared_words.specs.Conditions.{broken}
use Rattle.shared_words.specs.Refusals.{limit}
use Rattle.cob_rules.specs.Body.{behind_all}
use Rattle.cob_rules.specs.Walk.{chunk_at, walk, verdict}
use Rattle.cob_rules.specs.Gives.{topmost}
use Rattle.cob_rules.specs.Samples.{Samples}

pub samples : Samples
unfolding every behind_all finite broken chunk_at walk verdict topmost
samples = record {
  smallest-file = refl;
  triangle-file = refl;
  triangle-put = refl;
  pierced = refl;
  one-too_long = λ s h. rw (lt-leb (length s) limit h);
  twenty_header = refl;
  twenty_cut = refl;
  five_overrun = refl;
  five_stated = refl;
  twenty_one_zero = refl;
  twenty_one_twice = refl;
  twenty_one_parent = refl;
  twenty_two_unlisted = refl;
  twenty_two_minus_two = refl;
  ten_end = refl;
  ten_dupecount = refl;
  ten_file_end = refl;
  eleven_vertex = refl;
  eleven_texture = refl;
  twelve_vertex = refl;
  twelve_texture = refl;
  twelve_negative = refl;
  twelve_hole = refl;
  three_trailing = refl;
  fourteen_missing = refl;
}
