-- A row with children, or a test of what is left.
use Rattle.studio_own_data.proofs.Tests.{lt-is}
use Rattle.studio_own_data.proofs.leaves_bytes.Goals as goal

pub returns-then-may_have_children : goal.returns-then-may_have_children
returns-then-may_have_children c = rw (← c.may_have_children.ensures, c.if-may_have_children.true)

pub returns-else-may_have_children : goal.returns-else-may_have_children
returns-else-may_have_children c = rw (← c.may_have_children.ensures, c.if-may_have_children.false) (lt-is c.args.from c.args.stop)
