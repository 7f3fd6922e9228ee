-- The pairs of the file, then zeros.
use Prim.Native.Nat.{◌*◌}
use lib.ListN.{drop}
use Rattle.shared_words.specs.Bytes.{numbers}
use Rattle.shared_words.proofs.Numbers.{length-numbers}
use Rattle.studio_mesh_pairs.proofs.Zeros.{pairs-filled}
use Rattle.studio_mesh_pairs.proofs.fill_pairs.Goals as goal

pub returns : goal.returns
returns c =
    let a = c.args in
    let xs = numbers 4 (2 * a.m) (drop a.at a.s.now) in
    pairs-filled xs a.row.now _ _ (2 * a.m) (2 * a.n) (length-numbers 4 (2 * a.m) (drop a.at a.s.now))
    c.fill_floats.ensures c.fill.ensures
