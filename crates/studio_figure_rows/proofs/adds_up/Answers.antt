-- `studio_figure_rows::adds_up` meets its contract.
use native.Mathlib.Omega.{arith}
use Rattle.studio_figure_rows.proofs.Runs.{capped_is}
use Rattle.studio_figure_rows.proofs.adds_up.Goals as goal

pub sum-requires : goal.sum-requires
sum-requires c = (omega arith, omega arith, omega arith, omega arith)

pub returns : goal.returns
returns c =
    let a = c.args in
    capped_is _ a.len c.sum.result c.sum.ensures
