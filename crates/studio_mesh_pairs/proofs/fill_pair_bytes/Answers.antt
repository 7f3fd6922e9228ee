-- The bytes of the pairs, then zeros.
use Prim.Native.Nat.{◌*◌}
use native.Mathlib.Omega.{arith}
use lib.ListN.{drop}
use Rattle.shared_words.specs.Bytes.{numbers}
use Rattle.shared_words.proofs.Numbers.{length-numbers}
use Rattle.studio_mesh_pairs.proofs.Zeros.{pair_bytes_filled}
use Rattle.studio_mesh_pairs.proofs.fill_pair_bytes.Goals as goal

pub returns : goal.returns
returns c =
    let a = c.args in
    let xs = numbers 4 (2 * a.m) (drop a.at a.s.now) in
    pair_bytes_filled xs a.row.now _ _ (2 * a.m) (2 * a.n) (8 * a.m) (8 * a.n) (length-numbers 4 (2 * a.m) (drop a.at a.s.now)) (omega arith) (omega arith)
    c.fill_float_bytes.ensures c.fill.ensures
