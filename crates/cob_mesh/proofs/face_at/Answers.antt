-- The face or hole at a position.
use borrow.Author.Tests.{eq-eqb, ne_eqb}
use mathlib.Core.Bool.{true, false}
use mathlib.Core.Path.{◌∙◌}
use native.Mathlib.Omega.{arith}
use Rattle.shared_numbers.specs.Numbers.{word_at}
use Rattle.cob_mesh.proofs.Faces.{fitting, face-is}
use Rattle.cob_mesh.proofs.face_at.Goals as goal

pub bounds-s-at : goal.bounds-s-at
bounds-s-at c = let x = c.args in omega (arith, (fitting x.s.now x.at c.requires).start)

pub overflow_add-at : goal.overflow_add-at
overflow_add-at c = let x = c.args in omega (arith, (fitting x.s.now x.at c.requires).start)

pub word_at-requires : goal.word_at-requires
word_at-requires c = let x = c.args in omega (arith, (fitting x.s.now x.at c.requires).count.whole)

pub overflow_add-result : goal.overflow_add-result
overflow_add-result c = let x = c.args in omega (arith, (fitting x.s.now x.at c.requires).count.whole)

pub overflow_add-result-else-flags-eq1 : goal.overflow_add-result-else-flags-eq1
overflow_add-result-else-flags-eq1 c = let x = c.args in let e = ne_eqb _ _ c.if-flags-eq1.false in let f = (fitting x.s.now x.at c.requires).room in omega (arith, rw e at f)

pub returns-then-flags-eq1 : goal.returns-then-flags-eq1
unfolding word_at
returns-then-flags-eq1 c = let x = c.args in face-is x.s.now x.at (fitting x.s.now x.at c.requires)
    true _ _ (eq-eqb _ _ c.if-flags-eq1.true) (omega arith) (c.wide-count.ensures ∙ c.word_at.ensures.is)

pub returns-else-flags-eq1 : goal.returns-else-flags-eq1
unfolding word_at
returns-else-flags-eq1 c = let x = c.args in face-is x.s.now x.at (fitting x.s.now x.at c.requires)
    false _ _ (ne_eqb _ _ c.if-flags-eq1.false) (omega arith) (c.wide-count.ensures ∙ c.word_at.ensures.is)
