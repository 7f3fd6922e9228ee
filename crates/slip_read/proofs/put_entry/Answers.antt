-- The four numbers of the entry, one behind the other.
use Prim.Native.Nat.{◌+◌, ◌*◌}
use native.Mathlib.Omega.{arith}
use Rattle.slip_read.proofs.Rows.{four-puts, put_as, numbers-from}
use Rattle.slip_read.proofs.put_entry.Goals as goal

pub returns : goal.returns
returns c =
    let fourth = c.before.before.before in
    let third = fourth.before.before.before.before in
    let second = third.before.before.before.before in
    let first = second.before.before.before.before in
    let sums = first.before.before in
    let start = sums.before.before.before.before.before.before in
    let a = start.args in
    let len = sums.byte_at-len in
    let file = sums.long_at-file in
    let one = sums.byte_at-first in
    let two = sums.byte_at-second in
    let n = numbers-from a.s.now a.o len.result file.result one.result two.result start.requires.0
    len.ensures.0 file.ensures.is one.ensures.0 two.ensures.0 in
    let p = four-puts (a.o + 1) len.result file.result (one.result + 256 * two.result) (omega (arith, start.requires.2)) first.put_long-named.ensures second.put_long-sized.ensures third.put_long-filed.ensures fourth.put_long.ensures in
    put_as n p
