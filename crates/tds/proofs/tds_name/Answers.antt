-- The answer of the name, given out.
use mathlib.Core.Path.{ap, ◌∙◌}
use Rattle.c_answers.specs.Given.{name_given}
use Rattle.c_answers.proofs.Gives.{parts}
use Rattle.tds.proofs.tds_name.Goals as goal

pub returns : goal.returns
returns c =
    let e = parts (ap (name_given c.args.out.now) c.name.ensures.answer) in record { answer = c.give_name.ensures.answer ∙ e.0; out = c.give_name.ensures.out ∙ e.1 }
