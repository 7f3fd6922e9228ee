-- Whether the header and a stated size are within the file.
use mathlib.Core.Path.{sym, ◌∙◌}
use native.Mathlib.Omega.{arith}
use Rattle.cob_chunk.proofs.Fields.{size_in}
use Rattle.cob_step.proofs.Stepped.{within-short, within-negative, within-stated}
use Rattle.cob_step.proofs.is_within.Goals as goal

pub returns-then-left-lt20 : goal.returns-then-left-lt20
returns-then-left-lt20 c = let x = c.args in sym (within-short x.file.now x.at c.if-left-lt20.true)

pub returns-then-size-ge2147483648 : goal.returns-then-size-ge2147483648
returns-then-size-ge2147483648 c = let x = c.args in sym (within-negative x.file.now x.at _ (omega arith) (size_in x.file.now x.at ∙ sym c.long_at-size.ensures.is) c.if-size-ge2147483648.true)

pub returns : goal.returns
returns c = let x = c.args in within-stated x.file.now x.at _ (omega arith) (size_in x.file.now x.at ∙ sym c.long_at-size.ensures.is) c.if-size-ge2147483648.false
