-- 3D3D is noted, and the rest is read.
use mathlib.Core.Path.{◌≡◌, refl, ap}
use Prim.Native.Nat.{ℕ, ◌+◌}
use native.Mathlib.Omega.{arith}
use mathlib.Core.List.{[], ◌∷◌}
use lib.ListN.{length, drop}
use Rattle.shared_words.proofs.Bytes.{bytes-all}
use Rattle.studio_rules.specs.Walk.{length_field, top}
use Rattle.studio_scene.specs.Passed.{passed}
use Rattle.studio_rescue_around.proofs.Answers.{behind-refused, scene-found}
use Rattle.studio_rescue_around.proofs.Contexts.{run-refused, run-read}
use Rattle.studio_rescue_around.proofs.Behind.{length-field, few-here, scene-ends, six_still, context_behind, run-behind}
use Rattle.std.proofs.lemmas.Result.{err_from_is_err_and}
use Rattle.studio_rescue_around.proofs.judge_behind.Goals as goal

pub long_at-requires : goal.long_at-requires
long_at-requires c =
    let x = c in
    let a = x.args in
    let e = scene-ends a.file.now a.table.now a.version a.at a.marks.now x.requires.0 x.requires.1 in
    omega (arith, e.0, e.1)

pub overflow_add-stop : goal.overflow_add-stop
overflow_add-stop c =
    let x = c in
    let a = x.args in
    let g = x.requires.0 in
    let e = scene-ends a.file.now a.table.now a.version a.at a.marks.now g x.requires.1 in
    omega (arith, e.1, g.short, length-field a.file.now a.at c.long_at.result c.long_at.ensures.is)

pub run-requires : goal.run-requires
run-requires c =
    let a = c.args in
    let s = a.file.now in
    let g = c.requires.0 in
    let m = c.requires.1 in
    let w = c.row-row in
    let n = c.note in
    let e = scene-ends s a.table.now a.version a.at a.marks.now g m in
    let l = length-field s a.at c.long_at.result c.long_at.ensures.is in
    let six = six_still s a.table.now a.version a.at a.marks.now g m w.result w.ensures n.result n.ensures.is n.new.marks n.ensures.marks in
    let behind = context_behind s a.table.now a.version a.at a.marks.now g m w.result w.ensures n.result n.ensures.is n.new.marks n.ensures.marks in
    (omega (arith, e.1), omega (arith, e.2), record { ends = omega arith; short = g.short; word = omega arith; six = six }, (top a.version, 0x3D3D ∷ passed [] g.t, refl, behind), g.table_is)

pub returns-in_err-run : goal.returns-in_err-run
returns-in_err-run c =
    let a = c.args in
    let s = a.file.now in
    let g = c.requires.0 in
    let m = c.requires.1 in
    let w = c.row-row in
    let n = c.note in
    let stop = a.at + c.long_at.result in
    let stop_is : stop ≡ a.at + length_field (drop a.at s) = ap (λ (k : ℕ). a.at + k) (length-field s a.at c.long_at.result c.long_at.ensures.is) in
    let few = few-here s a.table.now a.version a.at a.marks.now g m in
    let came = run-behind s a.table.now a.version a.at a.marks.now g m w.result w.ensures n.result n.ensures.is n.new.marks n.ensures.marks stop c.run.result c.run.new.marks c.run.ensures.is c.in_err-run.was in
    let y = err_from_is_err_and c.from_residual.result c.from_residual.ensures.1 in
    rw (y.1, y.2)
    (behind-refused a.version s a.at g.long g.at-is g.t g.is m stop stop_is few _ (run-refused _ (length s) stop _ n.new.marks c.run.new.marks came))

pub returns : goal.returns
returns c =
    let a = c.args in
    let s = a.file.now in
    let g = c.requires.0 in
    let m = c.requires.1 in
    let w = c.row-row in
    let n = c.note in
    let f = c.in_ok-run.field-0 in
    let stop = a.at + c.long_at.result in
    let stop_is : stop ≡ a.at + length_field (drop a.at s) = ap (λ (k : ℕ). a.at + k) (length-field s a.at c.long_at.result c.long_at.ensures.is) in
    let few = few-here s a.table.now a.version a.at a.marks.now g m in
    let came = run-behind s a.table.now a.version a.at a.marks.now g m w.result w.ensures n.result n.ensures.is n.new.marks n.ensures.marks stop c.run.result c.run.new.marks c.run.ensures.is c.in_ok-run.was in
    let b = bytes-all s (λ i. omega (arith, c.type_inv.file i)) in
    let r = run-read (top a.version) (0x3D3D ∷ passed [] g.t) s stop (length s) n.new.marks c.run.new.marks b (omega arith) f.next f.records f.skipped came in
    scene-found a.version s a.at g.long g.at-is g.t g.is m stop stop_is few r.t r.is g.size_is
