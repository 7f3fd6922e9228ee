-- The five pieces of an entry, one behind the other.
use native.Mathlib.Omega.{arith}
use Rattle.slip_write_judge.proofs.Rows.{name-long}
use Rattle.slip_write.proofs.Rows.{entry-puts}
use Rattle.slip_write.proofs.put_entry.Goals as goal

pub put_long-sums-requires : goal.put_long-sums-requires
put_long-sums-requires c =
    let start = c in
    omega (arith, start.requires.1, name-long start.args.names.now start.args.it start.requires.0.inside)

pub put_byte-second-requires : goal.put_byte-second-requires
put_byte-second-requires c =
    let start = c in
    omega (arith, start.requires.1, name-long start.args.names.now start.args.it start.requires.0.inside)

pub overflow_cast-it-5 : goal.overflow_cast-it-5
overflow_cast-it-5 c = omega (arith, c.requires.0.second)

pub put_byte-requires : goal.put_byte-requires
put_byte-requires c =
    let fourth = c.before.before.before.before.before in
    let third = fourth.before.before.before.before.before in
    let second = third.before.before.before.before in
    let first = second.before.before.before.before.before.before in
    let start = first.before.before.before.before.before in
    omega (
      arith,
      start.requires.1,
      name-long start.args.names.now start.args.it start.requires.0.inside,
      first.put_byte-name.ensures.ends,
      second.put_part-file.ensures.ends,
      third.put_long-sums.ensures.ends,
      fourth.put_byte-second.ensures.ends,
      second.out-1.given,
      third.out-2-1.given,
      fourth.out-3-1.given,
      c.before.out-4-1.given,
    )

pub returns : goal.returns
returns c =
    let fifth = c.before.before.before in
    let fourth = fifth.before.before.before.before.before in
    let third = fourth.before.before.before.before.before in
    let second = third.before.before.before.before in
    let first = second.before.before.before.before.before.before in
    let start = first.before.before.before.before.before in
    entry-puts start.args.names.now start.args.it start.requires.0 (omega (arith, start.requires.1)) first.put_byte-name.ensures
    second.put_part-file.ensures third.put_long-sums.ensures fourth.put_byte-second.ensures fifth.put_byte.ensures
