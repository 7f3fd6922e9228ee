-- Each test of the code is one of the conditions; a byte is below 256. A name that is not in the tree yet is put there.
use mathlib.Core.Path.{◌≡◌}
use Prim.Native.Nat.{◌+◌}
use native.Mathlib.Omega.{arith}
use lib.ListN.{get_or}
use Rattle.slip_check.specs.Entries.{names_in}
use Rattle.slip_check.proofs.Good.{reached-within, off_short, off_empty, off_first, off_second, on-all}
use Rattle.slip_check.proofs.Seen.{good-entry, not_good, after-near}
use Rattle.slip_check.proofs.is_good.Goals as goal

pub overflow_sub-left : goal.overflow_sub-left
overflow_sub-left c =
    let s = c in
    omega (arith, reached-within s.args.s.now s.args.n s.args.at s.requires.0)

pub returns-then-left-lt7 : goal.returns-then-left-lt7
returns-then-left-lt7 c =
    let s = c in
    let a = s.args in
    let h = reached-within a.s.now a.n a.at s.requires.0 in
    not_good a.s.now a.nodes.now a.n a.at (off_short (names_in a.n a.s.now 7) a.s.now a.at h (omega arith))

pub returns-then-left-len : goal.returns-then-left-len
returns-then-left-len c =
    let s = c in
    let a = s.args in
    let h = reached-within a.s.now a.n a.at s.requires.0 in
    not_good a.s.now a.nodes.now a.n a.at (off_short (names_in a.n a.s.now 7) a.s.now a.at h (omega arith))

pub returns-then-len-eq0 : goal.returns-then-len-eq0
returns-then-len-eq0 c =
    let s = c in
    let a = s.args in
    let h = reached-within a.s.now a.n a.at s.requires.0 in
    not_good a.s.now a.nodes.now a.n a.at (off_empty (names_in a.n a.s.now 7) a.s.now a.at h (omega arith) (omega arith))

pub returns-then-byte_at-eq255 : goal.returns-then-byte_at-eq255
returns-then-byte_at-eq255 c =
    let s = c in
    let a = s.args in
    let h = reached-within a.s.now a.n a.at s.requires.0 in
    not_good a.s.now a.nodes.now a.n a.at (off_first (names_in a.n a.s.now 7) a.s.now a.at h (cc))

pub returns-then-byte_at-eq255-2 : goal.returns-then-byte_at-eq255-2
returns-then-byte_at-eq255-2 c =
    let s = c in
    let a = s.args in
    let h = reached-within a.s.now a.n a.at s.requires.0 in
    not_good a.s.now a.nodes.now a.n a.at (off_second (names_in a.n a.s.now 7) a.s.now a.at h (cc))

pub add-requires : goal.add-requires
add-requires c =
    let s = c in
    let a = s.args in
    let near = after-near a.s.now (λ i. omega (arith, c.type_inv.s i)) a.n 7 in
    record {
      holds = s.requires.1.holds;
      node = s.requires.2;
      small = omega arith;
      begins = omega (arith, near, s.requires.0.ends, s.requires.3);
      spans = omega arith;
      whole = omega arith;
    }

pub returns : goal.returns
returns c =
    let x = c in
    let a = x.args in
    let s = a.s.now in
    let h = reached-within s a.n a.at x.requires.0 in
    let l = c.byte_at-len.ensures.0 in
    let f : get_or s (a.at + 5 + get_or s a.at 0) 0 ≡ c.byte_at.result = cc in
    let g : get_or s (a.at + 5 + get_or s a.at 0 + 1) 0 ≡ c.byte_at-2.result = cc in
    let on = on-all (names_in a.n s 7) s a.at h (omega arith) (omega arith) (omega arith) (omega arith) (omega arith) in
    good-entry s a.nodes.now c.add.new.nodes a.n a.at c.byte_at-len.result c.add.result x.requires.0 x.requires.1 (omega arith) l on
    c.add.ensures
