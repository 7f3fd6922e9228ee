use Rattle.studio_lookup.proofs.slot.Goals as goal

pub returns : goal.returns
returns c = rw c.requires
