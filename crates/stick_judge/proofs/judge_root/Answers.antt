-- The tests are the conditions of the first item.
use mathlib.Core.Path.{◌≡◌, sym, ap, ◌∙◌}
use mathlib.Core.List.{List}
use Prim.Native.Nat.{ℕ}
use native.Mathlib.Omega.{arith}
use lib.ListN.{length}
use borrow.Author.Tests.{eqb-true, eq-eqb, ne_eqb}
use Rattle.stick_names.proofs.Alike.{part_length}
use Rattle.stick_rules.specs.declared.ItemRecord.{ItemRecord}
use Rattle.shared_words.specs.Conditions.{answered, broken}
use Rattle.stick_rules.specs.Records.{record_at, record_no, item_no}
use Rattle.stick_judge.proofs.Marking.{seen-within}
use Rattle.stick_judge.proofs.Whole.{root-conditions}
use Rattle.stick_judge.proofs.judge_root.Goals as goal

abbrev kind : ItemRecord → ℕ
kind r = r.kind

abbrev len : ItemRecord → ℕ
len r = r.len

abbrev size : ItemRecord → ℕ
size r = r.size

-- what has a kind has its path among the names
first-path : (names s : List ℕ) → (record_no names s 0).kind ≡ 2 → length (item_no names s 0).path ≡ (record_no names s 0).len
first-path names s k = part_length names (record_at s 0).name (record_at s 0).len (seen-within names (record_at s 0) (λ z. omega (arith, k, z)))

pub returns-then-it-ne2 : goal.returns-then-it-ne2
unfolding answered broken
returns-then-it-ne2 c =
    let x = c in
    let a = x.args in
    let t = item_no a.names.now a.items.now 0 in
    let r = c.item_record-it.ensures in
    let c' = root-conditions a.names.now a.items.now x.requires in
    let i = ne_eqb t.kind 2 (λ q. c.if-it-ne2.true (ap kind r ∙ q)) in
    sym (ap answered c' ∙ rw i)

pub returns-then-it-ne0 : goal.returns-then-it-ne0
unfolding answered broken
returns-then-it-ne0 c =
    let x = c in
    let a = x.args in
    let t = item_no a.names.now a.items.now 0 in
    let r = c.item_record-it.ensures in
    let c' = root-conditions a.names.now a.items.now x.requires in
    let i = eq-eqb t.kind 2 (sym (ap kind r) ∙ c.if-it-ne2.false) in
    let e = first-path a.names.now a.items.now (eqb-true t.kind 2 i) in
    let n = ne_eqb (length t.path) 0 (λ q. c.if-it-ne0.true (ap len r ∙ sym e ∙ q)) in
    sym (ap answered c' ∙ rw (i, n))

pub returns-then-it-eq0 : goal.returns-then-it-eq0
unfolding answered broken
returns-then-it-eq0 c =
    let x = c in
    let a = x.args in
    let t = item_no a.names.now a.items.now 0 in
    let r = c.item_record-it.ensures in
    let c' = root-conditions a.names.now a.items.now x.requires in
    let i = eq-eqb t.kind 2 (sym (ap kind r) ∙ c.if-it-ne2.false) in
    let e = first-path a.names.now a.items.now (eqb-true t.kind 2 i) in
    let n = eq-eqb (length t.path) 0 (e ∙ sym (ap len r) ∙ c.if-it-ne0.false) in
    let u = eq-eqb t.size 0 (sym (ap size r) ∙ c.if-it-eq0.true) in
    sym (ap answered c' ∙ rw (i, n, u))

pub returns : goal.returns
unfolding answered broken
returns c =
    let x = c in
    let a = x.args in
    let t = item_no a.names.now a.items.now 0 in
    let r = c.item_record-it.ensures in
    let c' = root-conditions a.names.now a.items.now x.requires in
    let i = eq-eqb t.kind 2 (sym (ap kind r) ∙ c.if-it-ne2.false) in
    let e = first-path a.names.now a.items.now (eqb-true t.kind 2 i) in
    let n = eq-eqb (length t.path) 0 (e ∙ sym (ap len r) ∙ c.if-it-ne0.false) in
    let u = ne_eqb t.size 0 (λ q. c.if-it-eq0.false (ap size r ∙ q)) in
    sym (ap answered c' ∙ rw (i, n, u))
