-- The children before 3D3D were refused; there is none; or those behind it are judged.
use mathlib.Core.Path.{refl}
use native.Mathlib.Omega.{arith}
use mathlib.Core.List.{[]}
use Rattle.shared_words.proofs.Bytes.{bytes-all}
use Rattle.studio_rules.specs.Walk.{top}
use Rattle.studio_marks.specs.Marks.{no_marks}
use Rattle.studio_check.proofs.Files.{figure-row, top_context}
use Rattle.studio_rescue_around.proofs.Answers.{in_file_lem, before-refused, no-scene}
use Rattle.studio_rescue_around.proofs.Contexts.{run-refused, run-read, top_read}
use Rattle.std.proofs.lemmas.Result.{err_from_is_err_and}
use Rattle.studio_rescue_around.proofs.judge_children.Goals as goal

pub run-requires : goal.run-requires
run-requires c =
    let x = c in
    let a = x.args in
    let v = a.version in
    let i = in_file_lem v a.file.now a.at x.requires.0 x.requires.2 in
    (i.0, omega arith, record { ends = i.1; short = x.requires.1; word = omega arith; six = refl }, (top v, [], refl, top_context v _ figure-row), c.slots-slots.ensures)

pub returns-then-at-file : goal.returns-then-at-file
returns-then-at-file c =
    let a = c.args in
    let s = a.file.now in
    let x = c.requires in
    let r = c.run in
    let g = c.in_ok-run.field-0 in
    let i = in_file_lem a.version s a.at x.0 x.2 in
    let b = bytes-all s (λ i. omega (arith, c.type_inv.file i)) in
    let w = run-read (top a.version) [] s 6 a.at no_marks r.new.marks b i.1 g.next g.records g.skipped (top_read s a.version a.at r.result r.new.marks r.ensures.is c.in_ok-run.was) in
    no-scene a.version s a.at x.0 x.2 w.t w.is c.if-at-file.true

pub judge_behind-requires : goal.judge_behind-requires
judge_behind-requires c =
    let a = c.args in
    let s = a.file.now in
    let x = c.requires in
    let r = c.run in
    let g = c.in_ok-run.field-0 in
    let i = in_file_lem a.version s a.at x.0 x.2 in
    let b = bytes-all s (λ i. omega (arith, c.type_inv.file i)) in
    let w = run-read (top a.version) [] s 6 a.at no_marks r.new.marks b i.1 g.next g.records g.skipped (top_read s a.version a.at r.result r.new.marks r.ensures.is c.in_ok-run.was) in
    let n = c.if-at-file.false in (
      record {
        long = x.0;
        short = x.1;
        at-is = x.2;
        table_is = c.slots-slots.ensures;
        t = w.t;
        is = w.is;
        obeys = w.obeys;
        size_is = omega (arith, w.size_is, i.0);
        marked = w.marked;
        six = r.ensures.six;
      },
      omega (arith, i.1),
    )

pub returns-in_err-run : goal.returns-in_err-run
returns-in_err-run c =
    let a = c.args in
    let s = a.file.now in
    let x = c.requires in
    let r = c.run in
    let y = err_from_is_err_and c.from_residual.result c.from_residual.ensures.1 in
    rw (y.1, y.2)
    (before-refused a.version s a.at x.0 x.2 _ (run-refused _ a.at 6 _ no_marks r.new.marks (top_read s a.version a.at r.result r.new.marks r.ensures.is c.in_err-run.was)))
