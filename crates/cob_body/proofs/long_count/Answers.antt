-- A count of 4 bytes.
use mathlib.Core.Path.{◌∙◌}
use native.Mathlib.Omega.{arith}
use Rattle.shared_numbers.specs.Numbers.{long_at}
use Rattle.cob_body.proofs.Ends.{count-short, count-negative, count-good}
use Rattle.cob_body.proofs.long_count.Goals as goal

pub returns-then-s-at-lt4 : goal.returns-then-s-at-lt4
returns-then-s-at-lt4 c = count-short 4 _ _ c.if-s-at-lt4.true

pub returns-then-n-ge2147483648 : goal.returns-then-n-ge2147483648
unfolding long_at
returns-then-n-ge2147483648 c = let x = c.args in count-negative 4 x.s.now x.at c.long_at-n.result (omega arith) c.long_at-n.ensures.is (omega arith)

pub returns : goal.returns
unfolding long_at
returns c = let x = c.args in count-good 4 x.s.now x.at _ (omega arith) (c.wide.ensures ∙ c.long_at-n.ensures.is) (omega (arith, c.wide.ensures))
