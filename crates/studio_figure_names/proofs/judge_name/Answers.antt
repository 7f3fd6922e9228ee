-- `studio_figure_names::judge_name` meets its contract.
use mathlib.Core.Path.{ap, ◌∙◌}
use lib.Seq.{take-length}
use Rattle.shared_words.specs.Labels.{label_fault}
use Rattle.studio_figure_names.proofs.Asked.{zero-refused, zero-passed, text-refused, text-passed}
use Rattle.studio_figure_names.proofs.judge_name.Goals as goal

pub returns-then-zero-name : goal.returns-then-zero-name
returns-then-zero-name c = rw c.in-Zero.is (zero-refused c.args.name.now c.first_zero-zero.result c.first_zero-zero.ensures c.if-zero-name.true)

pub returns-else-zero-name : goal.returns-else-zero-name
returns-else-zero-name c = rw c.in-Zero.is (zero-passed c.args.name.now c.first_zero-zero.result c.first_zero-zero.ensures c.if-zero-name.false)

pub returns-then-taken-name : goal.returns-then-taken-name
returns-then-taken-name c =
    rw c.in-Label.is
    (text-refused c.args.name.now c.label_size-taken.result (c.label_size-taken.ensures ∙ ap label_fault (take-length c.args.name.now)) c.if-taken-name.true)

pub returns-else-taken-name : goal.returns-else-taken-name
returns-else-taken-name c =
    rw c.in-Label.is
    (text-passed c.args.name.now c.label_size-taken.result (c.label_size-taken.ensures ∙ ap label_fault (take-length c.args.name.now)) c.if-taken-name.false)
