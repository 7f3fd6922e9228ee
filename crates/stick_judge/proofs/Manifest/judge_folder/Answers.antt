-- The tests are the conditions, one after another.
use Rattle.std.specs.Prelude.{Option, Some, None, is_some}
use mathlib.Core.Path.{◌≡◌, sym, ◌∙◌}
use mathlib.Core.Bool.{true, false≢true}
use mathlib.Core.List.{List}
use Prim.Native.Nat.{ℕ, ◌<◌}
use native.Mathlib.Omega.{arith}
use lib.ListN.{length}
use borrow.Author.Tests.{eq-eqb, ne_eqb, lt-ltb, le-ltb, lt-leb}
use Rattle.slip_rules.specs.Slip.{Entry}
use Rattle.stick_names.proofs.Alike.{part_length}
use Rattle.stick_rules.specs.Judge.{entry_index}
use Rattle.stick_judge.specs.Expected.{expected}
use Rattle.stick_rules.specs.Records.{item_of}
use Rattle.stick_judge.specs.declared.Sought.{Sought}
use Rattle.stick_judge.specs.Judging.{Finds}
use Rattle.stick_judge.proofs.Marking.{not-folder, folder_nameless, folder-long, folder-file}
use Rattle.stick_judge.proofs.Manifest.judge_folder.Goals as goal

-- where some entry was found, its number is one of theirs
found : (es : List Entry) (path : List ℕ) (o : Option Sought) → Finds true es path o → is_some o ≡ true → entry_index true es path < length es
found es path None f e = absurd (false≢true e)
found es path (Some r) f e = omega (arith, f.within, f.numbered)

pub returns-then-it-ne2 : goal.returns-then-it-ne2
returns-then-it-ne2 c =
    let a = c.args in
    let es = expected a.self.now in
    let t = item_of a.names.now a.it in
    let z = ne_eqb a.it.kind 1 c.requires.0 in
    not-folder es a.i t a.matched.now z (ne_eqb a.it.kind 2 c.if-it-ne2.true)

pub returns-then-it-eq0 : goal.returns-then-it-eq0
returns-then-it-eq0 c =
    let a = c.args in
    let es = expected a.self.now in
    let t = item_of a.names.now a.it in
    let z = ne_eqb a.it.kind 1 c.requires.0 in
    let k = c.if-it-ne2.false in
    let i = eq-eqb a.it.kind 2 k in
    let e = part_length a.names.now a.it.name a.it.len (c.requires.1 k) in
    folder_nameless es a.i t a.matched.now z i (eq-eqb (length t.path) 0 (e ∙ c.if-it-eq0.true))

pub returns-then-it-ge64 : goal.returns-then-it-ge64
returns-then-it-ge64 c =
    let a = c.args in
    let es = expected a.self.now in
    let t = item_of a.names.now a.it in
    let z = ne_eqb a.it.kind 1 c.requires.0 in
    let k = c.if-it-ne2.false in
    let i = eq-eqb a.it.kind 2 k in
    let e = part_length a.names.now a.it.name a.it.len (c.requires.1 k) in
    let b = ne_eqb (length t.path) 0 (λ q. c.if-it-eq0.false (sym e ∙ q)) in
    folder-long es a.i t a.matched.now z i b (le-ltb (length t.path) 64 (omega (arith, e, c.if-it-ge64.true)))

pub returns-then-is_some : goal.returns-then-is_some
returns-then-is_some c =
    let a = c.args in
    let es = expected a.self.now in
    let t = item_of a.names.now a.it in
    let z = ne_eqb a.it.kind 1 c.requires.0 in
    let k = c.if-it-ne2.false in
    let i = eq-eqb a.it.kind 2 k in
    let e = part_length a.names.now a.it.name a.it.len (c.requires.1 k) in
    let b = ne_eqb (length t.path) 0 (λ q. c.if-it-eq0.false (sym e ∙ q)) in
    let s = lt-ltb (length t.path) 64 (omega (arith, e, c.if-it-ge64.false)) in
    let f = rw c.path_of.ensures at c.find.ensures in
    folder-file es a.i t a.matched.now z i b s (lt-leb (length es) (entry_index true es t.path) (found es t.path _ f (sym c.is_some.ensures ∙ c.if-is_some.true)))
