-- Up to 63 bytes are all looked at; of more the first 63.
use mathlib.Core.Path.{sym, ap, ◌∙◌}
use Prim.Native.Nat.{◌-◌}
use native.Mathlib.Omega.{arith}
use lib.ListN.{length}
use lib.Seq.{slice, length-slice, take_all}
use Rattle.shared_words.specs.Lists.{first_fault}
use Rattle.shared_words.specs.Labels.{printable}
use Rattle.shared_words.proofs.FirstFault.{fault-within, fault-take}
use Rattle.shared_numbers.proofs.Slices.{take-slice}
use Rattle.shared_labels.proofs.label_size.Goals as goal

pub returns-then-end-at-le63 : goal.returns-then-end-at-le63
returns-then-end-at-le63 c =
    let a = c.args in
    let s = a.s.now in
    let t = slice a.at a.end s in
    let e = rw (take_all (length s - 0) s (omega arith)) at c.printable_size.ensures in
    omega (arith, e, fault-within printable t, length-slice a.at a.end s (omega arith))

pub returns : goal.returns
returns c =
    let a = c.args in
    let s = a.s.now in
    let t = slice a.at a.end s in
    let e = rw (take_all (length s - 0) s (omega arith)) at c.printable_size-2.ensures in
    e ∙ ap (first_fault printable) (sym (take-slice 63 a.at a.end s (omega arith))) ∙ fault-take printable 63 t
