-- The one B000, or none.
use native.Mathlib.Omega.{arith}
use Rattle.studio_child.proofs.Figure.{figure_kids}
use Rattle.studio_parts_find.proofs.Fathers.{listed_here, keyframer-header, parts-there, parts-nowhere}
use Rattle.studio_parts_find.proofs.find_parts.Goals as goal

pub next_child-at-requires : goal.next_child-at-requires
next_child-at-requires c = let x = c in (listed_here.0, (_, _, figure_kids x.args.file.now x.requires.0 x.requires.1))

pub long_at-requires : goal.long_at-requires
long_at-requires c =
    let x = c in
    let n = c.next_child-at in
    omega (arith, keyframer-header x.args.file.now x.requires.0 x.requires.1 n.result (n.ensures _ _ (figure_kids x.args.file.now x.requires.0 x.requires.1)) c.if-at-end.true)

pub returns-then-at-end : goal.returns-then-at-end
returns-then-at-end c = λ kids m.
    let x = c in
    let n = c.next_child-at in
    parts-there x.args.file.now kids m n.result (n.ensures _ _ (figure_kids x.args.file.now kids m)) c.if-at-end.true c.long_at.result c.long_at.ensures.is

pub returns : goal.returns
returns c = λ kids m.
    let x = c in
    let n = c.next_child-at in
    parts-nowhere x.args.file.now kids m n.result (n.ensures _ _ (figure_kids x.args.file.now kids m)) c.if-at-end.false
