use mathlib.Core.Path.{sym, ap, ◌∙◌}
use native.Mathlib.Omega.{arith}
use Rattle.cob_rules.specs.Kinds.{is_end}
use Rattle.cob_tables.proofs.Chunks.{head_whole, here-stated, here-long}
use Rattle.cob_meshes.proofs.Passed.{counting_starts, counting_on, counting_ends}
use Rattle.cob_meshes.proofs.count_meshes.Goals as goal

pub loop-n-init : goal.loop-n-init
loop-n-init c = counting_starts _ c.requires

pub kind_at-requires : goal.kind_at-requires
kind_at-requires c = head_whole c.loop-n.invariant.passed.passing

pub count_mesh-n-requires : goal.count_mesh-n-requires
count_mesh-n-requires c = head_whole c.loop-n.invariant.passed.passing

pub chunk_end-at-requires : goal.chunk_end-at-requires
chunk_end-at-requires c = here-stated c.loop-n.invariant.passed.passing (ap is_end (sym c.kind_at.ensures) ∙ sym c.is_end.ensures ∙ c.loop-n-test.true)

pub loop-n-smaller : goal.loop-n-smaller
loop-n-smaller c =
    let r = c.loop-n.invariant.passed.passing in
    omega (arith, c.chunk_end-at.ensures, here-long r (ap is_end (sym c.kind_at.ensures) ∙ sym c.is_end.ensures ∙ c.loop-n-test.true), head_whole r)

pub loop-n-preserved : goal.loop-n-preserved
loop-n-preserved c = counting_on c.loop-n.invariant (ap is_end (sym c.kind_at.ensures) ∙ sym c.is_end.ensures ∙ c.loop-n-test.true) _ _ c.count_mesh-n.ensures.0 c.chunk_end-at.ensures

pub returns : goal.returns
returns c = counting_ends c.loop-n.invariant (ap is_end (sym c.kind_at.ensures) ∙ sym c.is_end.ensures ∙ c.loop-n-test.false)
