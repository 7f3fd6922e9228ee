-- A name that fits has some bytes; of another the zero is there, or not.
use mathlib.Core.Path.{refl}
use native.Mathlib.Omega.{arith}
use Prim.Native.Nat.{◌-◌}
use lib.ListN.{length}
use lib.Seq.{take_all}
use Rattle.studio_rules.specs.Table.{name}
use Rattle.studio_own_size.proofs.Sizes.{label_is, label_unfit, no_name}
use Rattle.studio_own_size.proofs.label.Goals as goal

pub returns-then-size-ne0 : goal.returns-then-size-ne0
returns-then-size-ne0 c =
    let x = c in
    let a = x.args in
    label_is a.file.now a.at a.stop (omega arith) (omega arith) a.size x.requires.2 c.if-size-ne0.true

pub returns-then-name_size-stop : goal.returns-then-name_size-stop
returns-then-name_size-stop c =
    let x = c in
    let a = x.args in
    let z = rw (take_all (length a.file.now - 0) a.file.now (omega arith)) at c.name_size.ensures in
    label_unfit a.file.now a.at a.stop (omega arith) (omega arith) a.size x.requires.2 c.if-size-ne0.false
    c.name_size.result z (omega arith)

pub returns-else-name_size-stop : goal.returns-else-name_size-stop
returns-else-name_size-stop c =
    let x = c in
    let a = x.args in
    let z = rw (take_all (length a.file.now - 0) a.file.now (omega arith)) at c.name_size.ensures in
    no_name a.file.now a.at a.stop (omega arith) (omega arith) name refl c.name_size.result z (omega arith)
