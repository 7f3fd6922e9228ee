-- The answer of the box, given out.
use mathlib.Core.Path.{ap, ◌∙◌}
use Rattle.c_answers.specs.Given.{box_given}
use Rattle.c_answers.proofs.Gives.{parts}
use Rattle.tds.proofs.tds_box.Goals as goal

pub returns : goal.returns
returns c =
    let e = parts (ap (box_given c.args.out.now) c.bounding_box.ensures.answer) in record { answer = c.give_box.ensures.answer ∙ e.0; out = c.give_box.ensures.out ∙ e.1 }
