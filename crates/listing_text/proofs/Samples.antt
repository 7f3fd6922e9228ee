-- The samples, by computation.
use mathlib.Core.Path.{refl}
use Rattle.shared_words.specs.Lists.{every}
use Rattle.studio_rules.specs.Table.{rows, at_most_one_ids, at_least_one_ids, listed, under, shape, plus, limits, needs}
use Rattle.shared_words.specs.Floats.{finite}
use Rattle.shared_words.specs.Labels.{fits_label}
use Rattle.shared_words.specs.Conditions.{broken}
use Rattle.studio_rules.specs.Walk.{step, walk, verdict}
use Rattle.listing_printing.specs.Text.{numeral, decimal}
use Rattle.listing_text.specs.Lines.{refusal_line, counts_line, chunk_line}
use Rattle.listing_text.specs.Listing.{listing}
use Rattle.listing_text.specs.Samples.{Samples}

pub samples : Samples
unfolding every rows at_most_one_ids at_least_one_ids listed under shape plus limits needs finite fits_label broken step walk verdict numeral decimal refusal_line counts_line chunk_line listing
samples = record { triangle-listed = refl; too_long = refl; no_room = refl }
