-- The worked cases, by computation.
use mathlib.Core.Path.{refl}
use lib.Count.{count_trailing_zeros}
use lib.Ieee.{span, climb, size, odd, of_fields, of_bits, to_bits}
use Rattle.shared_words.specs.Lists.{every}
use Rattle.shared_words.specs.Labels.{fits_label}
use Rattle.shared_words.specs.Floats.{finite}
use Rattle.shared_words.specs.Conditions.{broken}
use Rattle.studio_figure_rules.specs.Judged.{judged_figure}
use Rattle.studio_figure_rules.specs.Write.{write_figure}
use Rattle.studio_figure_rules.specs.Described.{judged_flat, write_flat}
use Rattle.studio_figure_rules.specs.Samples.{Samples}

pub samples : Samples
unfolding every finite fits_label broken judged_figure write_figure judged_flat write_flat span climb size odd of_fields of_bits to_bits count_trailing_zeros
samples = record { answers = refl; triangle-again = refl; painted-written = refl; rows-misfit = refl; rows_written = refl }
