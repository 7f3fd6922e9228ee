-- A file, or what must be a folder.
use mathlib.Core.Path.{ap}
use Prim.Native.Nat.{ℕ, ◌*◌}
use native.Mathlib.Omega.{arith}
use Rattle.stick_rules.specs.declared.ItemRecord.{ItemRecord}
use Rattle.stick_rules.specs.Records.{record_size, record_at}
use Rattle.stick_judge.proofs.Marking.{seen-within}
use Rattle.stick_judge.proofs.Manifest.judge_item.Goals as goal

abbrev kind : ItemRecord → ℕ
kind r = r.kind

pub judge_file-requires : goal.judge_file-requires
judge_file-requires c =
    let x = c in
    let a = x.args in
    let e = c.item_record-it.ensures in
    let k = ap kind e in
    let w = seen-within a.names.now (record_at a.items.now (record_size * a.i)) in
    (c.if-it-eq1.true, rw e (w (λ z. omega (arith, c.if-it-eq1.true, k, z))), x.requires.1)

pub returns-then-it-eq1 : goal.returns-then-it-eq1
returns-then-it-eq1 c =
    let e = c.item_record-it.ensures in
    rw e at c.judge_file.ensures

pub judge_folder-requires : goal.judge_folder-requires
judge_folder-requires c =
    let x = c in
    let a = x.args in
    let e = c.item_record-it.ensures in
    let k = ap kind e in
    let w = seen-within a.names.now (record_at a.items.now (record_size * a.i)) in
    (c.if-it-eq1.false, λ y. rw e (w (λ z. omega (arith, k, y, z))), x.requires.1)

pub returns : goal.returns
returns c =
    let e = c.item_record-it.ensures in
    rw e at c.judge_folder.ensures
