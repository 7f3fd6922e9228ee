-- A number of 2 bytes that is not negative.
use mathlib.Core.Option.{some}
use Rattle.cob_body.proofs.Ends.{counted-ends, counted-not, all-ends}
use Rattle.cob_body.proofs.natural_end.Goals as goal

pub returns-in_err-short_count : goal.returns-in_err-short_count
returns-in_err-short_count c = rw c.from_residual.ensures (counted-not 2 (λ n t. some t) c.args.s.now c.args.at c.in_err-short_count.ensures.told)

pub returns : goal.returns
returns c = let k = c.in_ok-short_count.ensures.told in counted-ends (λ n t. some t) k (all-ends _ _ k.whole)
