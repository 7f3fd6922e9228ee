use mathlib.Core.Path.{refl, sym, ap, ◌∙◌}
use mathlib.Core.Logic.{inl, inr}
use Prim.Native.Nat.{ℕ, ◌+◌, ◌*◌}
use lib.Dec.{ltb}
use borrow.Author.Tests.{le-ltb, lt-ltb}
use Rattle.shared_words.specs.Lists.{every}
use Rattle.shared_numbers.specs.Numbers.{word_at}
use Rattle.studio_scan.proofs.Lists.{one_more, every_one, words_more}
use Rattle.studio_scan.proofs.words_below.Goals as goal
use Rattle.studio_scan.proofs.words_below.Goals.{then-limit-word_at, else-limit-word_at}

pub loop-i-init : goal.loop-i-init
unfolding every
loop-i-init c = refl

pub loop-i-preserved : goal.loop-i-preserved
loop-i-preserved c =
    let l = c.loop-i in
    let a = c.args in
    let r = c.word_at in
    let v = every_one (λ x. ltb x a.limit) (word_at a.s.now (a.at + 2 * l.i)) ∙ ap (λ (x : ℕ). ltb x a.limit) (sym r.ensures.is) in
    one_more (λ x. ltb x a.limit) _ _ _ (words_more a.s.now a.at l.i) l.good c.if-limit-word_at.good l.invariant
    (elim c.if-limit-word_at.branch [
      | then-limit-word_at w ↦ inl (v ∙ le-ltb _ _ w.if-limit-word_at.true, w.good-is)
      | else-limit-word_at w ↦ inr (v ∙ lt-ltb _ _ w.if-limit-word_at.false, w.good-is)
    ])
