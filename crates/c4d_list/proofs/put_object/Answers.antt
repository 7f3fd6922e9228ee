-- Three numbers, one behind the other.
use Prim.Native.Nat.{◌≤◌}
use lib.ListN.{length}
use native.Mathlib.Omega.{arith}
use Rattle.shared_numbers.proofs.Put.{put_then}
use Rattle.c4d_list.proofs.put_object.Goals as goal

pub returns : goal.returns
returns c =
    let a = c.args in
    let h : a.at ≤ length a.row.now = omega arith in
    put_then h (put_then h c.put_long-placed.ensures c.put_long-named.ensures) c.put_long.ensures
