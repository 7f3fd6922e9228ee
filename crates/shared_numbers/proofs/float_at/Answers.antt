-- A finite pattern is no NaN's, so its bits are read as they stand.
use Rattle.shared_numbers.proofs.Finite.{not-nan}
use Rattle.shared_numbers.proofs.float_at.Goals as goal

pub float_from_bits-result : goal.float_from_bits-result
float_from_bits-result c = not-nan _ (rw c.long_at.ensures.is c.requires.1)

pub returns : goal.returns
returns c = rw c.long_at.ensures.is
