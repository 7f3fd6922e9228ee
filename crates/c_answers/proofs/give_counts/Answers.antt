-- A refusal, or the three counts, each of which fits.
use mathlib.Core.Path.{sym, ap, subst, ◌∙◌}
use native.Mathlib.Omega.{arith}
use Rattle.studio_rules.specs.Within.{CountsWithin}
use Rattle.c_answers.specs.Given.{counts_given}
use Rattle.c_answers.proofs.Gives.{parts}
use Rattle.c_answers.proofs.give_counts.Goals as goal

pub overflow_cast-three : goal.overflow_cast-three
overflow_cast-three c = let p = c in omega (arith, (subst CountsWithin p.in-Ok.is p.requires).0)

pub overflow_cast-three-in-Ok : goal.overflow_cast-three-in-Ok
overflow_cast-three-in-Ok c = let p = c in omega (arith, (subst CountsWithin p.in-Ok.is p.requires).1)

pub overflow_cast-three-in-Ok-2 : goal.overflow_cast-three-in-Ok-2
overflow_cast-three-in-Ok-2 c = let p = c in omega (arith, (subst CountsWithin p.in-Ok.is p.requires).2)

pub returns-in-Err : goal.returns-in-Err
returns-in-Err c =
    let e = parts (ap (counts_given c.args.out.now) (sym c.in-Err.is)) in record { answer = c.refusal_code.ensures ∙ e.0; out = e.1 }

pub returns-in-Ok : goal.returns-in-Ok
returns-in-Ok c =
    let p = c in
    let e = parts (ap (counts_given p.args.out.now) (sym p.in-Ok.is)) in record { answer = c.give_numbers.ensures.answer ∙ e.0; out = c.give_numbers.ensures.out ∙ e.1 }
