-- The number that the part from a position begins with is the one at the position.
use Rattle.studio_scan.proofs.Halves.{halves-part}
use Rattle.studio_scan.proofs.load_long.Goals as goal

pub returns : goal.returns
returns c = halves-part _ _ _ c.first_long.ensures
