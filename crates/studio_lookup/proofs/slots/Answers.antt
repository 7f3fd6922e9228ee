use mathlib.Core.Path.{refl}
use Rattle.studio_rules.specs.Table.{rows, limits, at_most_one_ids}
use Rattle.studio_row.specs.Packed.{places, row_of}
use Rattle.studio_lookup.specs.Slots.{slots}
use Rattle.studio_lookup.proofs.slots.Goals as goal

pub returns : goal.returns
unfolding slots rows places limits at_most_one_ids row_of
returns c = refl
