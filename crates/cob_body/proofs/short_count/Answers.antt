-- A count of 2 bytes.
use mathlib.Core.Path.{◌∙◌}
use native.Mathlib.Omega.{arith}
use Rattle.shared_numbers.specs.Numbers.{word_at}
use Rattle.cob_body.proofs.Ends.{count-short, count-negative, count-good}
use Rattle.cob_body.proofs.short_count.Goals as goal

pub returns-then-s-at-lt2 : goal.returns-then-s-at-lt2
returns-then-s-at-lt2 c = count-short 2 _ _ c.if-s-at-lt2.true

pub returns-then-n-ge32768 : goal.returns-then-n-ge32768
unfolding word_at
returns-then-n-ge32768 c = let x = c.args in count-negative 2 x.s.now x.at c.word_at-n.result (omega arith) c.word_at-n.ensures.is (omega arith)

pub returns : goal.returns
unfolding word_at
returns c = let x = c.args in count-good 2 x.s.now x.at _ (omega arith) (c.wide.ensures ∙ c.word_at-n.ensures.is) (omega (arith, c.wide.ensures))
