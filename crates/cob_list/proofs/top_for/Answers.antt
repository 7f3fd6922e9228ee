-- The node of the topmost owner of node k, from its parent's identifier.
use mathlib.Core.Path.{sym, ◌∙◌}
use native.Mathlib.Omega.{arith}
use Rattle.cob_seen.proofs.Numbers.{number_at}
use Rattle.cob_list.proofs.top_for.Goals as goal

pub overflow_cast-p : goal.overflow_cast-p
overflow_cast-p c = let x = c.args in let a = number_at x.ids.now x.count x.parent _ (sym c.find.ensures ∙ c.in-Some.is) in omega (arith, a.0)

pub topmost-requires : goal.topmost-requires
topmost-requires c = let x = c.args in let a = number_at x.ids.now x.count x.parent _ (sym c.find.ensures ∙ c.in-Some.is) in omega (arith, a.0)
