-- A file is unexpected, or its entry is met with it.
use mathlib.Core.Path.{◌≡◌, sym, ◌∙◌}
use mathlib.Core.Bool.{true}
use Prim.Native.Nat.{◌+◌, ◌*◌}
use native.Mathlib.Omega.{arith}
use lib.ListN.{length}
use borrow.Author.Tests.{eq-eqb, ne_eqb}
use Rattle.stick_names.proofs.Alike.{part_length}
use Rattle.stick_rules.specs.Judge.{entry_index}
use Rattle.stick_judge.specs.Expected.{expected}
use Rattle.stick_rules.specs.Records.{item_of}
use Rattle.stick_judge.proofs.Marking.{length_expected, file_nameless, file-not-on, file-again, file-judged}
use Rattle.stick_judge.proofs.Manifest.judge_file.Goals as goal

pub returns-then-it-eq0 : goal.returns-then-it-eq0
returns-then-it-eq0 c =
    let a = c.args in
    let es = expected a.self.now in
    let t = item_of a.names.now a.it in
    let f = eq-eqb a.it.kind 1 c.requires.0 in
    let e = part_length a.names.now a.it.name a.it.len c.requires.1 in
    file_nameless es a.i t a.matched.now f (eq-eqb (length t.path) 0 (e ∙ c.if-it-eq0.true))

pub returns-in_default : goal.returns-in_default
returns-in_default c =
    let a = c.args in
    let es = expected a.self.now in
    let t = item_of a.names.now a.it in
    let f = eq-eqb a.it.kind 1 c.requires.0 in
    let e = part_length a.names.now a.it.name a.it.len c.requires.1 in
    let z = ne_eqb (length t.path) 0 (λ q. c.if-it-eq0.false (sym e ∙ q)) in
    file-not-on es a.i t a.matched.now f z (omega (arith, rw c.path_of.ensures at c.in_default.ensures))

pub overflow_mul-at : goal.overflow_mul-at
overflow_mul-at c = omega (arith, c.in-Some.ensures.within, length_expected c.args.self.now.slip.now c.args.self.now.entries, c.args.self.now.indexed.few)

pub bounds-matched-at : goal.bounds-matched-at
bounds-matched-at c = omega (arith, c.in-Some.ensures.within, length_expected c.args.self.now.slip.now c.args.self.now.entries, c.requires.2)

pub returns-then-matched-at-ne0 : goal.returns-then-matched-at-ne0
returns-then-matched-at-ne0 c =
    let a = c.args in
    let es = expected a.self.now in
    let t = item_of a.names.now a.it in
    let h = length_expected a.self.now.slip.now a.self.now.entries in
    let f = eq-eqb a.it.kind 1 c.requires.0 in
    let e = part_length a.names.now a.it.name a.it.len c.requires.1 in
    let z = ne_eqb (length t.path) 0 (λ q. c.if-it-eq0.false (sym e ∙ q)) in
    let s = rw c.path_of.ensures at c.in-Some.ensures in
    let y : 64 * entry_index true es t.path + 0 ≡ 64 * c.in-Some.sought.number = omega (arith, s.numbered) in
    file-again es a.i t a.matched.now f z (omega (arith, s.within, s.numbered)) (omega (arith, h, s.within, s.numbered, c.requires.2)) (rw y c.if-matched-at-ne0.true)

pub bounds-matched-at-2 : goal.bounds-matched-at-2
bounds-matched-at-2 c = omega (arith, c.in-Some.ensures.within, length_expected c.args.self.now.slip.now c.args.self.now.entries, c.requires.2)

pub returns : goal.returns
returns c =
    let a = c.args in
    let es = expected a.self.now in
    let t = item_of a.names.now a.it in
    let h = length_expected a.self.now.slip.now a.self.now.entries in
    let f = eq-eqb a.it.kind 1 c.requires.0 in
    let e = part_length a.names.now a.it.name a.it.len c.requires.1 in
    let z = ne_eqb (length t.path) 0 (λ q. c.if-it-eq0.false (sym e ∙ q)) in
    let s = c.in-Some.sought in
    let d = rw c.path_of.ensures at c.in-Some.ensures in
    let y : 64 * s.number + 0 ≡ 64 * s.number = omega arith in
    rw y at (file-judged es a.i t a.matched.now f z s _ d (omega (arith, h, d.within, c.requires.2)) (rw y c.if-matched-at-ne0.false) c.judge_evidence.ensures)
