-- The file, into zeroed rows with room for its identifiers.
use mathlib.Core.Path.{refl, sym, ◌∙◌}
use Rattle.cob_check.proofs.Answers.{headless, headed, long_enough}
use Rattle.cob_check.proofs.judge_file.Goals as goal

pub returns-then-not-is_headed : goal.returns-then-not-is_headed
returns-then-not-is_headed c = let s = c.args.file.now in rw (headless s c.requires.short (sym c.is_headed.ensures ∙ c.if-not-is_headed.true)) refl

pub walk_chunks-requires : goal.walk_chunks-requires
walk_chunks-requires c = let s = c.args.file.now in (c.requires, long_enough s (sym c.is_headed.ensures ∙ c.if-not-is_headed.false))

pub returns : goal.returns
returns c =
    let walk-chunks' = c.walk_chunks in
    let if1' = c.if-not-is_headed in
    let is-headed' = c.is_headed in
    let args' = c.args in
    let pre' = c.requires in
    let s = args'.file.now in
    rw (headed s pre'.short (sym is-headed'.ensures ∙ if1'.false)) walk-chunks'.ensures
