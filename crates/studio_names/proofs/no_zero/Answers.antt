use mathlib.Core.Path.{sym, ◌∙◌}
use mathlib.Core.Bool.{false≢true}
use borrow.Author.Count.{below_more}
use Rattle.studio_names.proofs.no_zero.Goals as goal
use Rattle.studio_names.proofs.no_zero.Goals.{then-s-at-eq0, else-s-at-eq0}

pub loop-i-preserved : goal.loop-i-preserved
loop-i-preserved c =
    λ e. elim c.if-s-at-eq0.branch [
      | then-s-at-eq0 w ↦ absurd (false≢true (sym w.none-is ∙ e))
      | else-s-at-eq0 w ↦ below_more _ _ (c.loop-i.invariant (sym w.none-is ∙ e)) w.if-s-at-eq0.false
    ]
