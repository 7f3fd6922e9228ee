use mathlib.Core.Path.{sym, ap, ◌∙◌}
use native.Mathlib.Omega.{arith}
use Rattle.cob_rules.specs.Kinds.{is_end}
use Rattle.cob_tables.proofs.Chunks.{head_whole, here-stated, here-long}
use Rattle.cob_meshes.proofs.Passed.{filling_starts, filling_ends, mesh-at, filling_on}
use Rattle.cob_meshes.proofs.fill.Goals as goal

pub loop-next-init : goal.loop-next-init
loop-next-init c = filling_starts _ _ c.requires

pub kind_at-requires : goal.kind_at-requires
kind_at-requires c = head_whole c.loop-next.invariant.passed.passing

pub chunk_end-next-requires : goal.chunk_end-next-requires
chunk_end-next-requires c = here-stated c.loop-next.invariant.passed.passing (ap is_end (sym c.kind_at.ensures) ∙ sym c.is_end.ensures ∙ c.loop-next-test.true)

pub put_mesh-to-requires : goal.put_mesh-to-requires
put_mesh-to-requires c = mesh-at c.loop-next.invariant (ap is_end (sym c.kind_at.ensures) ∙ sym c.is_end.ensures ∙ c.loop-next-test.true) _ c.chunk_end-next.ensures

pub count_record-number-requires : goal.count_record-number-requires
count_record-number-requires c = head_whole c.loop-next.invariant.passed.passing

pub loop-next-smaller : goal.loop-next-smaller
loop-next-smaller c =
    let r = c.loop-next.invariant.passed.passing in
    omega (arith, c.chunk_end-next.ensures, here-long r (ap is_end (sym c.kind_at.ensures) ∙ sym c.is_end.ensures ∙ c.loop-next-test.true), head_whole r)

pub loop-next-preserved : goal.loop-next-preserved
loop-next-preserved c =
    filling_on c.loop-next.invariant (ap is_end (sym c.kind_at.ensures) ∙ sym c.is_end.ensures ∙ c.loop-next-test.true) _ c.chunk_end-next.ensures _ c.count_record-number.ensures.0 c.count_record-number.ensures.1 c.put_mesh-to.ensures (omega arith)

pub returns : goal.returns
returns c = filling_ends c.loop-next.invariant (ap is_end (sym c.kind_at.ensures) ∙ sym c.is_end.ensures ∙ c.loop-next-test.false)
