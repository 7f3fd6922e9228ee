-- The name ends within the body, or not.
use mathlib.Core.Path.{refl}
use native.Mathlib.Omega.{arith}
use Rattle.studio_rules.specs.Table.{name}
use Rattle.studio_own_size.proofs.Sizes.{name-is, no_name}
use Rattle.studio_own_size.proofs.name_size.Goals as goal

pub returns-then-size-stop : goal.returns-then-size-stop
returns-then-size-stop c =
    let a = c.args in
    name-is a.file.now a.at a.stop (omega arith) (omega arith) c.name_size-size.result c.name_size-size.ensures (omega arith)

pub returns-else-size-stop : goal.returns-else-size-stop
returns-else-size-stop c =
    let a = c.args in
    no_name a.file.now a.at a.stop (omega arith) (omega arith) name refl c.name_size-size.result c.name_size-size.ensures (omega arith)
