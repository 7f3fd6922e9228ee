-- A mark is empty just where no chunk of its slot came.
use mathlib.Core.Path.{sym, ap, ◌∙◌}
use mathlib.Core.Bool.{not}
use Rattle.studio_marks.proofs.Ends.{figure-needs, material-needs, part-needs, other_needs}
use Rattle.studio_marks.proofs.is_missing.Goals as goal

pub returns-then-id-eq19789 : goal.returns-then-id-eq19789
returns-then-id-eq19789 c = λ q t s from stop i k. figure-needs q t s from stop _ k (i ∙ c.if-id-eq19789.true)

pub returns-then-id-eq45055 : goal.returns-then-id-eq45055
returns-then-id-eq45055 c = λ q t s from stop i k. material-needs q t s from stop _ k (i ∙ c.if-id-eq45055.true)

pub returns-then-id-eq45058 : goal.returns-then-id-eq45058
returns-then-id-eq45058 c = λ q t s from stop i k. part-needs q t s from stop _ k (i ∙ c.if-id-eq45058.true)

pub returns : goal.returns
returns c = λ q t s from stop i k. ap not (sym (other_needs q t (λ e. c.if-id-eq19789.false (sym i ∙ e)) (λ e. c.if-id-eq45055.false (sym i ∙ e)) (λ e. c.if-id-eq45058.false (sym i ∙ e))))
