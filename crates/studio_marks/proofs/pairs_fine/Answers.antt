-- No chunk, or its count word.
use native.Mathlib.Omega.{arith}
use mathlib.Core.Logic.{⊎_elim}
use borrow.Author.Tests.{eq-eqb, ne_eqb}
use Rattle.studio_marks.specs.Marks.{pairs_at}
use Rattle.studio_marks.proofs.pairs_fine.Goals as goal

pub returns-then-mark-eq0 : goal.returns-then-mark-eq0
unfolding pairs_at
returns-then-mark-eq0 c = rw (eq-eqb _ _ c.if-mark-eq0.true)

pub overflow_add-mark : goal.overflow_add-mark
overflow_add-mark c = ⊎_elim (λ e. absurd (c.if-mark-eq0.false e)) (λ e. omega arith) c.requires

pub word_at-m-requires : goal.word_at-m-requires
word_at-m-requires c = ⊎_elim (λ e. absurd (c.if-mark-eq0.false e)) (λ e. omega arith) c.requires

pub returns-then-as_many : goal.returns-then-as_many
unfolding pairs_at
returns-then-as_many c = rw (ne_eqb _ _ c.if-mark-eq0.false, c.if-as_many.true, c.word_at-m.ensures.is)

pub returns : goal.returns
unfolding pairs_at
returns c = rw (ne_eqb _ _ c.if-mark-eq0.false, c.if-as_many.false, c.word_at-m.ensures.is)
