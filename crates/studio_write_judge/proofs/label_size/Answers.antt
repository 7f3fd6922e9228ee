-- The whole name is the part from its start to its end.
use mathlib.Core.Path.{ap, ◌∙◌}
use native.Mathlib.Omega.{arith}
use lib.ListN.{length}
use lib.Seq.{take_all}
use Rattle.shared_words.specs.Labels.{label_fault}
use Rattle.studio_write_judge.proofs.label_size.Goals as goal

pub returns : goal.returns
returns c =
    let name = c.args.name.now in
    c.label_size.ensures ∙ ap label_fault (take_all (length name) name (omega arith))
