-- What the identifier's slot has for it is its row.
use mathlib.Core.Path.{sym, ap, ◌∙◌}
use Rattle.studio_lookup.specs.Slots.{found}
use Rattle.studio_lookup.proofs.Law.{slot_law, found-hit, found-miss}
use Rattle.studio_lookup.proofs.row.Goals as goal

pub returns-then-has : goal.returns-then-has
returns-then-has c =
    let s = c.slot-s in
    let x = c.args.id in
    c.row_in.ensures ∙ sym (found-hit s.result x (sym c.has.ensures ∙ c.if-has.true)) ∙ ap (λ t. found t x) s.ensures ∙ slot_law x

pub returns : goal.returns
returns c =
    let s = c.slot-s in
    let x = c.args.id in
    sym (found-miss s.result x (sym c.has.ensures ∙ c.if-has.false)) ∙ ap (λ t. found t x) s.ensures ∙ slot_law x
