-- Below the number, or -1.
use mathlib.Core.Path.{sym, ◌∙◌}
use native.Mathlib.Omega.{arith}
use borrow.Author.Tests.{lt-ltb}
use Rattle.c4d_held.proofs.Conditions.{material-below, material_above}
use Rattle.c4d_held.proofs.is_material.Goals as goal

pub returns-then-material-below : goal.returns-then-material-below
returns-then-material-below c = lt-ltb c.args.material c.args.below (omega arith) ∙ sym (material-below c.args.below c.args.material (omega arith) (omega arith))

pub returns-else-material-below : goal.returns-else-material-below
returns-else-material-below c = sym (material_above c.args.below c.args.material (omega arith))
