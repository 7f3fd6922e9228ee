-- The worked sticks, by computation.
use mathlib.Core.Path.{refl}
use Rattle.shared_words.specs.Conditions.{broken, answered}
use Rattle.shared_words.specs.Lists.{every}
use Rattle.shared_words.specs.Labels.{fits_label}
use Rattle.slip_rules.specs.Walk.{entry_at, verdict}
use Rattle.stick_rules.specs.Names.{equal_ignoring_case, is_inside, format_of}
use Rattle.stick_rules.specs.Judge.{entry_index, entry_of, item_conditions, items_conditions, matched_by, entry_conditions, judgement}
use Rattle.stick_rules.specs.Records.{eight_at, items_from, judge_call}
use Rattle.stick_rules.specs.Samples.{Samples, CallSamples}

pub samples : Samples
unfolding answered broken equal_ignoring_case is_inside format_of entry_index entry_of item_conditions items_conditions matched_by entry_conditions judgement
samples = record {
  good = refl;
  in_a_folder = refl;
  missing = refl;
  extra = refl;
  same-name_twice = refl;
  longer = refl;
  longer_unread = refl;
  other_sums_lem = refl;
  empty-folder = refl;
  folder_twice = refl;
  file-and-folder = refl;
  part-of-a-name = refl;
  no-root = refl;
  root-later = refl;
  root_twice = refl;
  root-unlisted = refl;
  no_name = refl;
  nothing-at-all = refl;
  not_looked_at = refl;
  not-read = refl;
  read_in_part = refl;
  not-judged = refl;
  other_reader = refl;
  not_listed = refl;
  its_reader_refused = refl;
  broken_off = refl;
  no-figure = refl;
  half_copied = refl;
  gone = refl;
  misnamed = refl;
  below = refl;
  exchanged = refl;
  in_its_place = refl;
  of-itself = refl;
  huge = refl;
  doubled = refl;
  two_in_one = refl;
  named_cob = refl;
  named_3ds = refl;
  named-short = refl;
}

pub call_samples : CallSamples
unfolding broken every fits_label entry_at verdict answered equal_ignoring_case is_inside format_of entry_index entry_of item_conditions items_conditions matched_by entry_conditions judgement eight_at items_from judge_call
call_samples = record { passes = refl; name-outside = refl; part_left = refl; no-slip = refl; other_slip = refl; nothing-handed = refl }
