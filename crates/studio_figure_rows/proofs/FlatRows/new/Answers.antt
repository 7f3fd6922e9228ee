-- Each float of a row has 32 bits, and no row is longer than half of the memory: their types say so.
use native.Mathlib.Omega.{arith}
use Rattle.studio_figure_rows.proofs.Floats.{floats-known}
use Rattle.studio_figure_rows.proofs.FlatRows.new.Goals as goal

pub invariant_of-result : goal.invariant_of-result
invariant_of-result c =
    let w = c.well_formed in
    record { floats = floats-known c.args.vertices.now c.type_inv.vertices; lengths = (omega (arith, w.0.1), omega (arith, w.1.1.0.1), omega (arith, w.1.1.1.0.1), omega (arith, w.1.1.1.1.0.1), omega (arith, w.1.1.1.1.1.1.0.1)) }
