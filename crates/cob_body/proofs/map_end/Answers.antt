-- A map, where its letter and a colon stand.
use borrow.Author.Rules.{part_to_end}
use mathlib.Core.List.{List, [], ◌∷◌}
use mathlib.Core.Path.{sym, ◌∙◌}
use native.Mathlib.Omega.{arith}
use lib.ListN.{take, drop}
use Rattle.cob_body.proofs.Parts.{by_element, map-not, map-ends}
use Rattle.cob_body.proofs.map_end.Goals as goal

pub returns-then-starts_with : goal.returns-then-starts_with
returns-then-starts_with c = let x = c.args in
    map-ends x.s.now x.at x.letter x.k
    (sym (rw (part_to_end x.s.now x.at) at c.starts_with.ensures.value ∙ by_element (x.letter ∷ 0x3A ∷ []) (take 2 (drop x.at x.s.now))) ∙ c.if-starts_with.true) c.map_data_end.ensures

pub returns-else-starts_with : goal.returns-else-starts_with
returns-else-starts_with c = let x = c.args in
    map-not x.s.now x.at x.letter x.k (omega arith)
    (sym (rw (part_to_end x.s.now x.at) at c.starts_with.ensures.value ∙ by_element (x.letter ∷ 0x3A ∷ []) (take 2 (drop x.at x.s.now))) ∙ c.if-starts_with.false)
