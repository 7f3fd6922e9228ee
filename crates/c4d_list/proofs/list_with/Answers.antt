-- A refused file stays refused; the objects of an accepted one are put where there is room.
use Rattle.shared_words.specs.declared.Refusal.{Refusal}
use Rattle.std.specs.Prelude.{Result}
use mathlib.Core.Path.{sym, ap}
use Prim.Native.Nat.{ℕ}
use Rattle.shared_words.specs.Effects.{Effect}
use Rattle.c4d_rules.specs.Calls.{Rows}
use Rattle.std.proofs.lemmas.Result.{err_from_is_err_and}
use Rattle.c4d_check.specs.Reads.{Judged}
use Rattle.c4d_list.proofs.Calls.{list-refused, few-objects, few_materials, both-filled, fillable}
use Rattle.c4d_list.proofs.list_with.Goals as goal

abbrev answer : Effect (Result ℕ Refusal) (Rows ℕ ℕ) → Result ℕ Refusal
answer e = e.answer

abbrev left : Effect (Result ℕ Refusal) (Rows ℕ ℕ) → Rows ℕ ℕ
left e = e.rows

pub returns-then-objects-figure : goal.returns-then-objects-figure
returns-then-objects-figure c =
    let a = c.args in
    let j : Judged a.file.now a.notes.now c.read.new.notes c.in_ok-figure.figure = c.in_ok-figure.ensures in
    let q = few-objects a.file.now a.objects.now a.materials.now c.in_ok-figure.figure j c.if-objects-figure.true in record { answer = sym (ap answer q); rows = sym (ap left q) }

pub returns-then-materials-figure : goal.returns-then-materials-figure
returns-then-materials-figure c =
    let a = c.args in
    let j : Judged a.file.now a.notes.now c.read.new.notes c.in_ok-figure.figure = c.in_ok-figure.ensures in
    let q = few_materials a.file.now a.objects.now a.materials.now c.in_ok-figure.figure j c.if-objects-figure.false c.if-materials-figure.true in record { answer = sym (ap answer q); rows = sym (ap left q) }

pub fill-requires : goal.fill-requires
fill-requires c =
    let a = c.args in
    let j : Judged a.file.now a.notes.now c.read.new.notes c.in_ok-figure.figure = c.in_ok-figure.ensures in
    fillable a.file.now a.objects.now a.materials.now c.in_ok-figure.figure j c.if-objects-figure.false c.if-materials-figure.false (c.requires j.short)

pub returns-in_err-figure : goal.returns-in_err-figure
returns-in_err-figure c =
    let a = c.args in
    let q = list-refused a.file.now a.objects.now a.materials.now c.in_err-figure.field-0.0 c.in_err-figure.ensures in
    let p = err_from_is_err_and c.from_residual.result c.from_residual.ensures.1 in
    rw (p.1, p.2) record { answer = sym (ap answer q); rows = sym (ap left q) }

pub returns : goal.returns
returns c =
    let a = c.args in
    let j : Judged a.file.now a.notes.now c.read.new.notes c.in_ok-figure.figure = c.in_ok-figure.ensures in
    let k = c.if-objects-figure.false in
    let m = c.if-materials-figure.false in
    let g = fillable a.file.now a.objects.now a.materials.now c.in_ok-figure.figure j k m (c.requires j.short) in
    let q = both-filled a.file.now a.objects.now a.materials.now c.in_ok-figure.figure j k m (c.fill.ensures g) in record { answer = sym (ap answer q); rows = sym (ap left q) }
