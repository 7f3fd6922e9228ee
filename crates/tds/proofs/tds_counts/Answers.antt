-- The answer of the check, its counts given out.
use mathlib.Core.Path.{sym, ap, subst, ◌∙◌}
use native.Mathlib.Omega.{arith}
use Rattle.shared_words.proofs.Bytes.{bytes-all}
use Rattle.tds.proofs.Small.{counts-within}
use Rattle.studio_rules.specs.Within.{CountsWithin}
use Rattle.c_answers.specs.Given.{counts_given}
use Rattle.c_answers.proofs.Gives.{parts}
use Rattle.tds.proofs.tds_counts.Goals as goal

pub give_counts-requires : goal.give_counts-requires
give_counts-requires c =
    let s = c.args.file.now in
    let b = bytes-all s (λ i. omega (arith, c.type_inv.file i)) in
    subst CountsWithin (sym c.check.ensures) (counts-within s b)

pub returns : goal.returns
returns c =
    let e = parts (ap (counts_given c.args.out.now) c.check.ensures) in record { answer = c.give_counts.ensures.answer ∙ e.0; out = c.give_counts.ensures.out ∙ e.1 }
