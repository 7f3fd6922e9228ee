use mathlib.Core.Path.{sym, ap, ◌∙◌}
use native.Mathlib.Omega.{arith}
use Rattle.cob_rules.specs.Kinds.{is_end}
use Rattle.cob_tables.proofs.Chunks.{head_whole, here-stated, here-long}
use Rattle.cob_tables.proofs.Finding.{starts, nowhere, finds, passes}
use Rattle.cob_tables.proofs.find_mesh.Goals as goal

pub loop-next-init : goal.loop-next-init
loop-next-init c = starts _ _ c.requires.0

pub kind_at-requires : goal.kind_at-requires
kind_at-requires c = head_whole c.loop-next.invariant.passing

pub chunk_end-next-requires : goal.chunk_end-next-requires
chunk_end-next-requires c = here-stated c.loop-next.invariant.passing (ap is_end (sym c.kind_at.ensures) ∙ sym c.is_end.ensures ∙ c.loop-next-test.true)

pub count_mesh-one-requires : goal.count_mesh-one-requires
count_mesh-one-requires c = head_whole c.loop-next.invariant.passing

pub overflow_add-n : goal.overflow_add-n
overflow_add-n c = omega (arith, c.loop-next.invariant.few, c.requires.1, c.count_mesh-one.ensures.1)

pub overflow_add-result : goal.overflow_add-result
overflow_add-result c = omega (arith, head_whole c.loop-next.invariant.passing)

pub returns-then-mesh-n : goal.returns-then-mesh-n
returns-then-mesh-n c =
    let count-mesh' = c.count_mesh-one in
    let chunk-end' = c.chunk_end-next in
    let if1' = c.loop-next-test in
    let is-end' = c.is_end in
    let kind-at' = c.kind_at in
    let loop' = c.loop-next in
    finds loop'.invariant (ap is_end (sym kind-at'.ensures) ∙ sym is-end'.ensures ∙ if1'.true) _ _ count-mesh'.ensures.0 chunk-end'.ensures c.if-mesh-n.true

pub loop-next-smaller : goal.loop-next-smaller
loop-next-smaller c = let t = ap is_end (sym c.kind_at.ensures) ∙ sym c.is_end.ensures ∙ c.loop-next-test.true in
    let n = c.chunk_end-next.ensures in
    omega (arith, here-long c.loop-next.invariant.passing t, head_whole c.loop-next.invariant.passing)

pub loop-next-preserved : goal.loop-next-preserved
loop-next-preserved c =
    let count-mesh' = c.count_mesh-one in
    let chunk-end' = c.chunk_end-next in
    let if1' = c.loop-next-test in
    let is-end' = c.is_end in
    let kind-at' = c.kind_at in
    let loop' = c.loop-next in
    passes loop'.invariant (ap is_end (sym kind-at'.ensures) ∙ sym is-end'.ensures ∙ if1'.true) _ _ count-mesh'.ensures.0 chunk-end'.ensures c.if-mesh-n.false

pub returns : goal.returns
returns c = nowhere c.loop-next.invariant (ap is_end (sym c.kind_at.ensures) ∙ sym c.is_end.ensures ∙ c.loop-next-test.false)
