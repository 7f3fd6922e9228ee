-- Three numbers, one behind the other.
use Prim.Native.Nat.{◌≤◌}
use lib.ListN.{length}
use native.Mathlib.Omega.{arith}
use Rattle.shared_numbers.proofs.Put.{put_then}
use Rattle.studio_rescue_sift.proofs.put_cut.Goals as goal

pub returns : goal.returns
returns c =
    let third = c.before.before.before in
    let second = third.before.before.before.before in
    let first = second.before.before.before.before in
    let a = first.before.before.before in
    let h : a.args.at ≤ length a.args.row.now = omega arith in
    put_then h (put_then h first.put_long-numbered.ensures second.put_long-counted.ensures) third.put_long.ensures
