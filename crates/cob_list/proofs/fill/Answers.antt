use Prim.Native.Nat.{ℕ}
use mathlib.Core.Path.{sym, ap, ◌∙◌}
use native.Mathlib.Omega.{arith}
use Rattle.cob_chunk.proofs.Fields.{parent_in}
use Rattle.cob_list.specs.Filling.{top_for}
use Rattle.cob_list.proofs.Passing.{room, end_whole}
use Rattle.cob_list.proofs.Rounds.{meets, few, first, fills, stated-here, fits-here, short, room-here, top-inside, more}
use Rattle.cob_list.proofs.fill.Goals as goal

pub loop-k-init : goal.loop-k-init
loop-k-init c = first _ _ _ _ _ _ c.requires.0 c.requires.1

pub chunk_end-next-requires : goal.chunk_end-next-requires
chunk_end-next-requires c = stated-here c.loop-k.invariant c.loop-k-test.true

pub overflow_cast-k : goal.overflow_cast-k
overflow_cast-k c = omega (arith, few c.loop-k.invariant.given, c.loop-k-test.true)

pub long_at-requires : goal.long_at-requires
long_at-requires c = omega (arith, (stated-here c.loop-k.invariant c.loop-k-test.true).header)

pub top_for-top-requires : goal.top_for-top-requires
top_for-top-requires c = let i = c.loop-k.invariant in (i.given.tree, omega (arith, i.tops, i.up-long), omega (arith, few i.given))

pub bounds-ids-top : goal.bounds-ids-top
bounds-ids-top c = let x = c.args in
    let i = c.loop-k in
    let e = c.top_for-top.ensures ∙ ap (λ (n : ℕ). top_for x.ids.now x.count i.up i.k n) (c.long_at.ensures.is ∙ sym (parent_in x.file.now i.at)) in
    omega (arith, top-inside i.invariant c.loop-k-test.true e, i.invariant.given.tree.room)

pub put_listed-to-requires : goal.put_listed-to-requires
put_listed-to-requires c = let i = c.loop-k.invariant in
    let b = c.loop-k-test.true in
    let n = c.chunk_end-next.ensures in
    ((stated-here i b).header, omega arith, omega (arith, fits-here i b, short i b), room-here i b)

pub loop-k-preserved : goal.loop-k-preserved
loop-k-preserved c = let x = c.args in
    let i = c.loop-k in
    let e = c.top_for-top.ensures ∙ ap (λ (n : ℕ). top_for x.ids.now x.count i.up i.k n) (c.long_at.ensures.is ∙ sym (parent_in x.file.now i.at)) in
    more i.invariant c.loop-k-test.true e c.chunk_end-next.ensures c.put_listed-to.ensures (omega arith)

pub put_end-requires : goal.put_end-requires
put_end-requires c = let i = c.loop-k.invariant in (end_whole i.passing (meets i.given) c.loop-k-test.false, (meets i.given).within-limit, room i.passing i.given.room i.row-long)

pub returns : goal.returns
returns c = fills c.loop-k.invariant c.loop-k-test.false c.put_end.ensures
