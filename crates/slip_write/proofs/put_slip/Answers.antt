-- The four pieces of a slip, one behind the other.
use native.Mathlib.Omega.{arith}
use Rattle.slip_write.proofs.Calls.{ready-short, slip-puts}
use Rattle.slip_write.proofs.put_slip.Goals as goal

pub overflow_cast-size : goal.overflow_cast-size
overflow_cast-size c = omega (arith, ready-short c.requires)

pub returns : goal.returns
returns c =
    let fourth = c.before.before.before in
    let third = fourth.before.before.before.before in
    let second = third.before.before.before.before in
    let first = second.before.before.before.before in
    let start = first.before.before.before.before.before in
    slip-puts start.requires first.put_byte-rest.ensures second.put_long-count.ensures third.put_word-first.ensures fourth.put_entries.ensures
