-- Each test of the code is one of the conditions. A name that is not in the tree yet is put there.
use mathlib.Core.Path.{subst}
use native.Mathlib.Omega.{arith}
use Rattle.shared_name_tree.specs.Names.{Grown}
use Rattle.slip_rules.specs.declared.Numbers.{Numbers}
use Rattle.slip_rules.specs.Calls.{entry_from}
use Rattle.slip_write_judge.proofs.Good.{same_row, off_many, off_outside, off_empty, off_long, off_first, off_second, on-all}
use Rattle.slip_write_judge.proofs.is_good.Goals as goal

pub returns-then-i-ge1000 : goal.returns-then-i-ge1000
returns-then-i-ge1000 c = let a = c.args in off_many a.names.now a.entries.now a.nodes.now a.i (omega arith)

pub returns-then-names-it : goal.returns-then-names-it
returns-then-names-it c =
    let a = c.args in
    let e = same_row c.row-it.ensures in
    off_outside a.names.now a.entries.now a.nodes.now a.i (omega arith)

pub returns-then-it-eq0 : goal.returns-then-it-eq0
returns-then-it-eq0 c =
    let a = c.args in
    let e = same_row c.row-it.ensures in
    off_empty a.names.now a.entries.now a.nodes.now a.i (omega arith) (omega arith)

pub returns-then-it-gt255 : goal.returns-then-it-gt255
returns-then-it-gt255 c =
    let a = c.args in
    let e = same_row c.row-it.ensures in
    off_long a.names.now a.entries.now a.nodes.now a.i (omega arith) (omega arith)

pub returns-then-it-eq255 : goal.returns-then-it-eq255
returns-then-it-eq255 c =
    let a = c.args in
    let e = same_row c.row-it.ensures in
    off_first a.names.now a.entries.now a.nodes.now a.i (omega arith)

pub returns-then-it-gt254 : goal.returns-then-it-gt254
returns-then-it-gt254 c =
    let a = c.args in
    let e = same_row c.row-it.ensures in
    off_second a.names.now a.entries.now a.nodes.now a.i (omega arith)

pub add-requires : goal.add-requires
add-requires c =
    let s = c in
    record {
      holds = s.requires.1.holds;
      node = omega (arith, s.requires.2);
      small = omega arith;
      begins = omega arith;
      spans = omega arith;
      whole = omega arith;
    }

pub returns : goal.returns
returns c =
    let s = c in
    let a = s.args in
    let r = c.row-it.ensures in
    let e = same_row r in
    let d = c.add in
    let some = c.if-it-eq0.false in
    let few = c.if-i-ge1000.false in
    let whole = c.if-names-it.false in
    let short = c.if-it-gt255.false in
    let first = c.if-it-eq255.false in
    let second = c.if-it-gt254.false in
    on-all a.names.now a.entries.now a.nodes.now a.i (omega arith) (omega arith) (omega arith) (omega arith) (omega arith) (omega arith) d.new.nodes d.result s.requires.1
    (subst (λ (n : Numbers). Grown a.names.now a.nodes.now a.i (entry_from a.names.now n).name d.result d.new.nodes) r d.ensures)
