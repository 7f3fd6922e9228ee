-- The worked cases, by computation.
use mathlib.Core.Path.{refl}
use lib.Count.{count_trailing_zeros}
use lib.Ieee.{span, climb, size, odd, of_fields, of_bits, to_bits}
use Rattle.shared_words.specs.Lists.{every}
use Rattle.shared_words.specs.Labels.{fits_label}
use Rattle.shared_words.specs.Conditions.{broken}
use Rattle.studio_write_judge.specs.Judged.{judged}
use Rattle.studio_write.specs.Write.{write_call}
use Rattle.studio_write.specs.Samples.{Samples}

pub samples : Samples
unfolding every fits_label broken judged write_call span climb size odd of_fields of_bits to_bits count_trailing_zeros
samples = record { answers = refl; written = refl }
