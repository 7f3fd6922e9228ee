-- One part of the verdict after another.
use mathlib.Core.Path.{sym, ◌∙◌}
use native.Mathlib.Omega.{arith}
use Rattle.c4d_check.proofs.Verdict.{verdict-long, verdict-form, reads}
use Rattle.c4d_check.proofs.read.Goals as goal

pub returns-then-file-gt-LIMIT : goal.returns-then-file-gt-LIMIT
returns-then-file-gt-LIMIT c = verdict-long c.args.file.now (omega arith)

pub returns-then-not-is_form : goal.returns-then-not-is_form
returns-then-not-is_form c =
    let s = c.args.file.now in
    verdict-form s (omega arith) (sym c.is_form.ensures.is ∙ c.if-not-is_form.true)

pub chunks-requires : goal.chunks-requires
chunks-requires c =
    (c.is_form.ensures.long c.if-not-is_form.false, omega arith)

pub returns : goal.returns
returns c =
    let a = c.args in
    let ran = c.chunks in
    reads a.file.now (omega arith) (sym c.is_form.ensures.is ∙ c.if-not-is_form.false) a.notes.now ran.new.notes ran.result ran.ensures
