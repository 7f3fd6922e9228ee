-- `studio_figure_rows::number` meets its contract: what is read is a number of 32 bits.
use mathlib.Core.Path.{refl}
use Prim.Native.Nat.{◌+◌, ◌*◌}
use native.Mathlib.Omega.{arith}
use Rattle.studio_figure_rows.proofs.number.Goals as goal

pub overflow_cast-result : goal.overflow_cast-result
overflow_cast-result c =
    let a = c.args in
    omega (arith, c.type_inv.row (a.width * a.i + a.column))

pub returns : goal.returns
returns c =
    let a = c.args in
    (refl, omega (arith, c.type_inv.row (a.width * a.i + a.column)))
