-- A refusal, or the two numbers of the name.
use mathlib.Core.Path.{sym, ap, subst, ◌∙◌}
use native.Mathlib.Omega.{arith}
use Rattle.studio_rules.specs.Within.{NameWithin}
use Rattle.c_answers.specs.Given.{name_given}
use Rattle.c_answers.proofs.Gives.{parts}
use Rattle.c_answers.proofs.give_name.Goals as goal

pub overflow_cast-two : goal.overflow_cast-two
overflow_cast-two c = let p = c in omega (arith, subst NameWithin p.in-Ok.is p.requires)

pub overflow_cast-two-in-Ok : goal.overflow_cast-two-in-Ok
overflow_cast-two-in-Ok c = let p = c in omega (arith, subst NameWithin p.in-Ok.is p.requires)

pub returns-in-Err : goal.returns-in-Err
returns-in-Err c =
    let e = parts (ap (name_given c.args.out.now) (sym c.in-Err.is)) in record { answer = c.refusal_code.ensures ∙ e.0; out = e.1 }

pub returns-in-Ok : goal.returns-in-Ok
returns-in-Ok c =
    let p = c in
    let e = parts (ap (name_given p.args.out.now) (sym p.in-Ok.is)) in record { answer = c.give_numbers.ensures.answer ∙ e.0; out = c.give_numbers.ensures.out ∙ e.1 }
