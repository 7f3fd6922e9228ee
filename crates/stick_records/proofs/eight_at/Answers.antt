-- Four bytes and four.
use native.Mathlib.Omega.{arith}
use Rattle.stick_records.proofs.Eight.{four-and-four}
use Rattle.stick_records.proofs.eight_at.Goals as goal

pub returns : goal.returns
returns c = let x = c in omega (arith, four-and-four x.args.s.now x.args.at x.requires, c.long_at-low.ensures.is, c.long_at-high.ensures.is)
