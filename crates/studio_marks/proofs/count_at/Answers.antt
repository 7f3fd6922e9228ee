-- No chunk, or its count word.
use native.Mathlib.Omega.{arith}
use mathlib.Core.Logic.{⊎_elim}
use borrow.Author.Tests.{eq-eqb, ne_eqb}
use Rattle.studio_marks.specs.Marks.{count_at}
use Rattle.studio_marks.proofs.count_at.Goals as goal

pub returns-then-mark-eq0 : goal.returns-then-mark-eq0
unfolding count_at
returns-then-mark-eq0 c = (rw (eq-eqb _ _ c.if-mark-eq0.true), omega arith)

pub overflow_add-mark : goal.overflow_add-mark
overflow_add-mark c = ⊎_elim (λ e. absurd (c.if-mark-eq0.false e)) (λ e. omega arith) c.requires

pub word_at-requires : goal.word_at-requires
word_at-requires c = ⊎_elim (λ e. absurd (c.if-mark-eq0.false e)) (λ e. omega arith) c.requires

pub returns : goal.returns
unfolding count_at
returns c = (rw (ne_eqb _ _ c.if-mark-eq0.false) c.word_at.ensures.is, c.word_at.ensures.small)
