-- There is no room, or the numbers are put.
use mathlib.Core.Path.{◌∙◌}
use Rattle.c_answers.proofs.Gives.{parts, no_room, has_room}
use Rattle.c_answers.proofs.give_numbers.Goals as goal

pub returns-then-out-n : goal.returns-then-out-n
returns-then-out-n c =
    let x = c.args in
    let e = parts (no_room x.numbers.now x.out.now c.if-out-n.true) in record { answer = c.refusal_code.ensures ∙ e.0; out = e.1 }

pub returns : goal.returns
returns c =
    let x = c.args in
    let e = parts (has_room x.numbers.now x.out.now c.if-out-n.false) in record { answer = e.0; out = c.put_numbers.ensures ∙ e.1 }
