-- The tests are the conditions, one after another.
use mathlib.Core.Path.{sym, ap, ◌∙◌}
use Prim.Native.Nat.{◌/◌, ◌%◌, ◌^◌}
use borrow.Author.Tests.{eq-eqb, ne_eqb, lt-ltb, le-ltb}
use Rattle.shared_words.specs.Conditions.{answered, broken}
use Rattle.stick_rules.specs.Names.{format_of}
use Rattle.stick_rules.specs.Records.{path_of}
use Rattle.stick_judge.proofs.judge_evidence.Goals as goal

pub returns-then-it-file : goal.returns-then-it-file
unfolding answered broken
returns-then-it-file c =
    let a = c.args in
    let t = a.it in
    let long = ne_eqb t.size a.file c.if-it-file.true in
    rw long

pub returns-then-it : goal.returns-then-it
unfolding answered broken
returns-then-it c =
    let a = c.args in
    let t = a.it in
    let long = eq-eqb t.size a.file c.if-it-file.false in
    let read = ne_eqb (t.checksum / 65_536) t.size c.if-it.true in
    rw (long, read)

pub returns-then-it-format_of : goal.returns-then-it-format_of
unfolding answered broken
returns-then-it-format_of c =
    let a = c.args in
    let t = a.it in
    let long = eq-eqb t.size a.file c.if-it-file.false in
    let read = eq-eqb (t.checksum / 65_536) t.size c.if-it.false in
    let judged = ne_eqb t.reader (format_of (path_of a.names.now t)) (λ e. c.if-it-format_of.true (e ∙ ap format_of (sym c.path_of.ensures) ∙ sym c.format_of.ensures)) in
    rw (long, read, judged)

pub returns-then-it-sums : goal.returns-then-it-sums
unfolding answered broken
returns-then-it-sums c =
    let a = c.args in
    let t = a.it in
    let long = eq-eqb t.size a.file c.if-it-file.false in
    let read = eq-eqb (t.checksum / 65_536) t.size c.if-it.false in
    let judged = eq-eqb t.reader (format_of (path_of a.names.now t)) (c.if-it-format_of.false ∙ c.format_of.ensures ∙ ap format_of c.path_of.ensures) in
    let sums = ne_eqb (t.checksum % 65_536) a.sums c.if-it-sums.true in
    rw (long, read, judged, sums)

pub returns-then-it-ge4294967296 : goal.returns-then-it-ge4294967296
unfolding answered broken
returns-then-it-ge4294967296 c =
    let a = c.args in
    let t = a.it in
    let long = eq-eqb t.size a.file c.if-it-file.false in
    let read = eq-eqb (t.checksum / 65_536) t.size c.if-it.false in
    let judged = eq-eqb t.reader (format_of (path_of a.names.now t)) (c.if-it-format_of.false ∙ c.format_of.ensures ∙ ap format_of c.path_of.ensures) in
    let sums = eq-eqb (t.checksum % 65_536) a.sums c.if-it-sums.false in
    let answer = le-ltb t.answer (2 ^ 32) c.if-it-ge4294967296.true in
    rw (long, read, judged, sums, answer)

pub returns : goal.returns
unfolding answered broken
returns c =
    let a = c.args in
    let t = a.it in
    let long = eq-eqb t.size a.file c.if-it-file.false in
    let read = eq-eqb (t.checksum / 65_536) t.size c.if-it.false in
    let judged = eq-eqb t.reader (format_of (path_of a.names.now t)) (c.if-it-format_of.false ∙ c.format_of.ensures ∙ ap format_of c.path_of.ensures) in
    let sums = eq-eqb (t.checksum % 65_536) a.sums c.if-it-sums.false in
    let answer = lt-ltb t.answer (2 ^ 32) c.if-it-ge4294967296.false in
    rw (long, read, judged, sums, answer)
