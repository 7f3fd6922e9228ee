use mathlib.Core.Path.{sym}
use native.Mathlib.Omega.{arith}
use Rattle.shared_names.proofs.Same.{same_length}
use Rattle.shared_names.proofs.same_bytes.Goals as goal

pub returns-then-x-y : goal.returns-then-x-y
returns-then-x-y c = sym (same_length c.args.x.now c.args.y.now (λ e. c.if-x-y.true (omega (arith, e))))
