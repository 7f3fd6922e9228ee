-- The identifier's slot has it where it is listed, and not otherwise.
use mathlib.Core.Path.{ap, ◌∙◌}
use Rattle.studio_lookup.specs.Slots.{id_in}
use Rattle.studio_lookup.proofs.Law.{slot_lists}
use Rattle.studio_lookup.proofs.is_listed.Goals as goal

pub returns : goal.returns
returns c =
    let x = c.args.id in
    c.has.ensures ∙ ap (λ t. id_in t x) c.slot.ensures ∙ slot_lists x c.requires.0
