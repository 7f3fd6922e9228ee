-- The name is longer, goes on with a slash, and begins as the path.
use mathlib.Core.Path.{sym, ◌∙◌}
use native.Mathlib.Omega.{arith}
use Rattle.stick_names.proofs.Alike.{inside_off, no_slash, with_slash}
use Rattle.stick_names.proofs.is_inside.Goals as goal

pub returns-then-name-n : goal.returns-then-name-n
returns-then-name-n c = sym (inside_off c.args.name.now c.args.path.now (omega arith))

pub returns-then-name-n-ne47 : goal.returns-then-name-n-ne47
returns-then-name-n-ne47 c = sym (no_slash c.args.name.now c.args.path.now (omega arith) c.if-name-n-ne47.true)

pub returns : goal.returns
returns c = c.equal_names.ensures ∙ sym (with_slash c.args.name.now c.args.path.now (omega arith) c.if-name-n-ne47.false)
