-- What the end of the search says of the list.
use mathlib.Core.Path.{sym}
use Rattle.cob_seen.proofs.Search.{there, nowhere}
use Rattle.cob_seen.proofs.find.Goals as goal

pub returns-then-ids-at : goal.returns-then-ids-at
returns-then-ids-at c = let a = c.args in sym (there a.ids.now a.links.now c.descend-at.ensures c.if-ids-at.true)

pub returns-else-ids-at : goal.returns-else-ids-at
returns-else-ids-at c = let a = c.args in sym (nowhere a.ids.now a.links.now c.descend-at.ensures c.if-ids-at.false)
