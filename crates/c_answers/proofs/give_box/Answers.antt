-- A refusal, or the nine numbers, each of which has bits.
use mathlib.Core.Path.{sym, ap, subst, ◌∙◌}
use Rattle.studio_rules.specs.Within.{BoxNumbers}
use Rattle.c_answers.specs.Given.{box_given}
use Rattle.c_answers.proofs.Gives.{parts}
use Rattle.c_answers.proofs.give_box.Goals as goal

pub float_to_bits-nine : goal.float_to_bits-nine
float_to_bits-nine c = let p = c in (subst BoxNumbers p.in-Ok.is p.requires).0.x.not-nan

pub float_to_bits-nine-in-Ok : goal.float_to_bits-nine-in-Ok
float_to_bits-nine-in-Ok c = let p = c in (subst BoxNumbers p.in-Ok.is p.requires).0.y.not-nan

pub float_to_bits-nine-in-Ok-2 : goal.float_to_bits-nine-in-Ok-2
float_to_bits-nine-in-Ok-2 c = let p = c in (subst BoxNumbers p.in-Ok.is p.requires).0.z.not-nan

pub float_to_bits-nine-in-Ok-3 : goal.float_to_bits-nine-in-Ok-3
float_to_bits-nine-in-Ok-3 c = let p = c in (subst BoxNumbers p.in-Ok.is p.requires).1.x.not-nan

pub float_to_bits-nine-in-Ok-4 : goal.float_to_bits-nine-in-Ok-4
float_to_bits-nine-in-Ok-4 c = let p = c in (subst BoxNumbers p.in-Ok.is p.requires).1.y.not-nan

pub float_to_bits-nine-in-Ok-5 : goal.float_to_bits-nine-in-Ok-5
float_to_bits-nine-in-Ok-5 c = let p = c in (subst BoxNumbers p.in-Ok.is p.requires).1.z.not-nan

pub float_to_bits-nine-in-Ok-6 : goal.float_to_bits-nine-in-Ok-6
float_to_bits-nine-in-Ok-6 c = let p = c in (subst BoxNumbers p.in-Ok.is p.requires).2.x.not-nan

pub float_to_bits-nine-in-Ok-7 : goal.float_to_bits-nine-in-Ok-7
float_to_bits-nine-in-Ok-7 c = let p = c in (subst BoxNumbers p.in-Ok.is p.requires).2.y.not-nan

pub float_to_bits-nine-in-Ok-8 : goal.float_to_bits-nine-in-Ok-8
float_to_bits-nine-in-Ok-8 c = let p = c in (subst BoxNumbers p.in-Ok.is p.requires).2.z.not-nan

pub returns-in-Err : goal.returns-in-Err
returns-in-Err c =
    let e = parts (ap (box_given c.args.out.now) (sym c.in-Err.is)) in record { answer = c.refusal_code.ensures ∙ e.0; out = e.1 }

pub returns-in-Ok : goal.returns-in-Ok
returns-in-Ok c =
    let p = c in
    let e = parts (ap (box_given p.args.out.now) (sym p.in-Ok.is)) in record { answer = c.give_numbers.ensures.answer ∙ e.0; out = c.give_numbers.ensures.out ∙ e.1 }
