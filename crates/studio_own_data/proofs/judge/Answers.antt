-- A plain row is judged by its size alone; any other by all conditions.
use mathlib.Core.Path.{sym, ◌∙◌}
use Rattle.studio_own_data.proofs.Conditions.{plain-chunk_fine, plain-chunk-fault}
use Rattle.studio_own_data.proofs.judge.Goals as goal

pub returns-then-stop-at : goal.returns-then-stop-at
returns-then-stop-at c = λ p u h.
    let x = c in
    plain-chunk_fine x.args.file.now x.args.at x.args.stop x.args.id x.args.row c.size-size.result x.requires.0 x.requires.1 x.requires.3 x.requires.4
    (sym c.is_plain.ensures ∙ c.if-not-is_plain.false) c.size-size.ensures.is p c.if-stop-at.true

pub returns-else-stop-at : goal.returns-else-stop-at
returns-else-stop-at c = λ p u h.
    let x = c in
    plain-chunk-fault x.args.file.now x.args.at x.args.stop x.args.id x.args.row c.size-size.result x.requires.0 x.requires.1 x.requires.3 x.requires.4
    (sym c.is_plain.ensures ∙ c.if-not-is_plain.false) c.size-size.ensures.is p c.if-stop-at.false
