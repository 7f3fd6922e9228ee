-- The first byte behind `from` that is not printable is the name's zero, or the name does not fit.
use native.Mathlib.Omega.{arith}
use Rattle.studio_names.proofs.Fits.{from-behind, reached, at-end, other_byte, zero_byte}
use Rattle.studio_names.proofs.long_fit.Goals as goal

pub returns-then-end-from : goal.returns-then-end-from
returns-then-end-from c =
    let x = c in
    let e = c.label_end-end in
    from-behind x.args.s.now x.args.at x.args.from x.args.stop e.result x.requires e.ensures (omega arith)

pub overflow_add-i : goal.overflow_add-i
overflow_add-i c =
    let x = c in
    let e = c.label_end-end in
    let n = c.printable_size in
    omega (arith, reached x.args.s.now x.args.at x.args.from x.args.stop e.result x.requires e.ensures n.result (omega arith) n.ensures)

pub returns-then-end-i : goal.returns-then-end-i
returns-then-end-i c =
    let x = c in
    let e = c.label_end-end in
    let n = c.printable_size in
    at-end x.args.s.now x.args.at x.args.from x.args.stop e.result x.requires e.ensures n.result (omega arith) n.ensures (omega arith)

pub returns-then-s-i-ne0 : goal.returns-then-s-i-ne0
returns-then-s-i-ne0 c =
    let x = c in
    let e = c.label_end-end in
    let n = c.printable_size in
    other_byte x.args.s.now x.args.at x.args.from x.args.stop e.result x.requires e.ensures n.result (omega arith) n.ensures (omega arith) c.if-s-i-ne0.true

pub returns : goal.returns
returns c =
    let x = c in
    let e = c.label_end-end in
    let n = c.printable_size in
    zero_byte x.args.s.now x.args.at x.args.from x.args.stop e.result x.requires e.ensures n.result (omega arith) n.ensures (omega arith) c.if-s-i-ne0.false
