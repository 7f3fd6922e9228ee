-- Puts the record of the chunk at an offset, if it is listed, and answers the position behind it.
use mathlib.Core.Bool.{true≢false}
use mathlib.Core.Path.{refl, sym, ap, ◌∙◌}
use Rattle.cob_rules.specs.Kinds.{listed}
use Rattle.cob_list.proofs.Rows.{put_as}
use Rattle.cob_list.proofs.put_listed.Goals as goal

pub returns-then-not-is_listed : goal.returns-then-not-is_listed
returns-then-not-is_listed c = let n = ap listed (sym c.kind_at.ensures) ∙ sym c.is_listed.ensures ∙ c.if-not-is_listed.true in
    record { yes = λ y. absurd (true≢false (sym y ∙ n)); no = λ y. (refl, refl) }

pub returns : goal.returns
returns c = let n = ap listed (sym c.kind_at.ensures) ∙ sym c.is_listed.ensures ∙ c.if-not-is_listed.false in
    record { yes = λ y. put_as _ _ c.record_at-r.ensures c.put_record.ensures; no = λ y. absurd (true≢false (sym n ∙ y)) }
