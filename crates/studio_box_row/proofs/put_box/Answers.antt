-- No box, or the box and its centre.
use mathlib.Core.Path.{sym, ◌∙◌}
use Rattle.studio_box_row.proofs.Boxes.{zero-numbers, none-there, box-numbers, box-there, put_as}
use Rattle.studio_box_row.proofs.put_box.Goals as goal

pub put_around-requires : goal.put_around-requires
put_around-requires c = (zero-numbers, c.requires.2)

pub returns-then-n-eq0 : goal.returns-then-n-eq0
returns-then-n-eq0 c =
    λ m e v.
    put_as (none-there m (sym e ∙ c.if-n-eq0.true)) c.put_around.ensures

pub put_around-requires-2 : goal.put_around-requires-2
put_around-requires-2 c =
    let x = c in
    (box-numbers _ _ _ _ c.box_of-b.ensures c.centre_of.ensures x.requires.1, x.requires.2)

pub returns : goal.returns
returns c =
    λ m e v.
    put_as (box-there _ _ _ _ c.box_of-b.ensures c.centre_of.ensures m e v c.if-n-eq0.false)
    c.put_around-2.ensures
