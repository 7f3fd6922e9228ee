-- What it repeats, then what it is.
use mathlib.Core.Path.{sym, ap, ◌∙◌}
use mathlib.Core.Bool.{Bool, true, false, cond}
use Rattle.c4d_rules.specs.Combinations.{is_in, combination, once_each}
use Rattle.c4d_parts.specs.Bits.{numbered}
use Rattle.c4d_held.specs.declared.Held.{Held}
use Rattle.c4d_held.proofs.OneMore.{not-turned}
use Rattle.c4d_held.proofs.combined.Goals as goal

pub returns-then-held : goal.returns-then-held
returns-then-held c = record { is = λ ids e. sym (ap (λ (q : Bool). numbered (cond q (combination (is_in ids)) 0)) (not-turned (once_each ids) false (sym (ap (λ (h : Held). h.repeated) e) ∙ c.if-held.true))); small = tt }

pub returns : goal.returns
returns c = record {
  is = λ ids e. c.combination.ensures.is ids (ap (λ (h : Held). h.present) e) ∙
      sym (ap (λ (q : Bool). numbered (cond q (combination (is_in ids)) 0)) (not-turned (once_each ids) true (sym (ap (λ (h : Held). h.repeated) e) ∙ c.if-held.false)));
  small = c.combination.ensures.small;
}
