-- Repeated before, or now.
use mathlib.Core.Path.{sym, ap, ◌∙◌}
use mathlib.Core.Bool.{not, true, false}
use Rattle.c4d_rules.specs.Combinations.{once_each}
use Rattle.c4d_held.specs.declared.Held.{Held}
use Rattle.c4d_held.proofs.OneMore.{not-turned, once-broken, once-texture, once-part}
use Rattle.c4d_held.proofs.repeats.Goals as goal

pub returns-then-held : goal.returns-then-held
returns-then-held c = λ ids e.
    sym (ap not (once-broken ids c.args.id (not-turned (once_each ids) false (sym (ap (λ (h : Held). h.repeated) e) ∙ c.if-held.true))))

pub returns-then-id-eq-T_TEXTURE : goal.returns-then-id-eq-T_TEXTURE
returns-then-id-eq-T_TEXTURE c = λ ids e.
    sym (ap not (once-texture ids c.args.id (not-turned (once_each ids) true (sym (ap (λ (h : Held). h.repeated) e) ∙ c.if-held.false)) c.if-id-eq-T_TEXTURE.true))

pub returns : goal.returns
returns c = λ ids e.
    let a = c.args in
    let p = c.requires in
    c.is_there.ensures ids (ap (λ (h : Held). h.present) e) ∙
    sym (once-part ids a.id (not-turned (once_each ids) true (sym (ap (λ (h : Held). h.repeated) e) ∙ c.if-held.false)) p.0 p.1 c.if-id-eq-T_TEXTURE.false)
