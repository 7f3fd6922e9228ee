-- The zeros below the lowest mark, by eights.
use Rattle.shared_eights.proofs.Trailing.{first-marked}
use Rattle.shared_eights.proofs.first_marked.Goals as goal

pub returns : goal.returns
returns c good bs l e = first-marked good bs l c.args.w e
