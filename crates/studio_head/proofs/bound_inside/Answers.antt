-- The order of a B002; the count word of any other chunk.
use lib.Seq.{slice}
use Rattle.studio_head.proofs.Orders.{bound-of-part, bound-of_other}
use Rattle.studio_head.proofs.bound_inside.Goals as goal

pub returns-then-id-eq45058 : goal.returns-then-id-eq45058
returns-then-id-eq45058 c = λ p seen o.
    let a = c.args in
    bound-of-part p seen (slice a.at a.stop a.file.now) a.id a.order c.if-id-eq45058.true o

pub returns : goal.returns
returns c = λ p seen o.
    let a = c.args in
    bound-of_other p seen (slice a.at a.stop a.file.now) a.id c.count_of.result c.if-id-eq45058.false c.count_of.ensures
