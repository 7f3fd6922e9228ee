use mathlib.Core.Path.{refl, ap, ◌∙◌}
use native.Mathlib.Omega.{arith}
use Rattle.std.proofs.lemmas.Result.{err_from_is_err_and}
use Rattle.std.specs.Prelude.{Ok}
use Rattle.cob_step.specs.declared.Step.{Step}
use Rattle.cob_check.proofs.Reached.{few, starts, ready, missing, told-refused, told_trailing, told_last, told-listed, told-skipped}
use Rattle.cob_check.proofs.walk_chunks.Goals as goal

pub loop-at-init : goal.loop-at-init
loop-at-init c = (starts _ _ _ c.requires.0 c.requires.1, refl, refl)

pub step_at-requires : goal.step_at-requires
step_at-requires c =
    let loop-test' = c.loop-at-test in
    (omega (arith, c.loop-at.invariant.0.inside), ready c.loop-at.invariant.0 c.requires.0 c.loop-at.invariant.1 c.loop-at.invariant.2 loop-test'.true)

pub returns-in_err-next : goal.returns-in_err-next
returns-in_err-next c =
    let p = err_from_is_err_and c.from_residual.result c.from_residual.ensures.1 in
    rw (p.1, p.2) (told-refused c.loop-at.invariant.0 c.loop-at-test.true c.step_at.ensures c.in_err-next.was)

pub shape_of-ids-then-next-file : goal.shape_of-ids-then-next-file
shape_of-ids-then-next-file c = omega (arith, c.loop-at.invariant.1)

pub shape_of-links-then-next-file : goal.shape_of-links-then-next-file
shape_of-links-then-next-file c = omega (arith, c.loop-at.invariant.2)

pub returns-then-next-file : goal.returns-then-next-file
returns-then-next-file c =
    let step-at' = c.step_at in
    let loop-test' = c.loop-at-test in
    told_trailing c.loop-at.invariant.0 loop-test'.true step-at'.ensures (c.in_ok-next.was ∙ ap (λ (x : Step). Ok x) c.in-Last.is) c.if-next-file.true

pub shape_of-ids-in-Last : goal.shape_of-ids-in-Last
shape_of-ids-in-Last c = omega (arith, c.loop-at.invariant.1)

pub shape_of-links-in-Last : goal.shape_of-links-in-Last
shape_of-links-in-Last c = omega (arith, c.loop-at.invariant.2)

pub returns-in-Last : goal.returns-in-Last
returns-in-Last c =
    let step-at' = c.step_at in
    let loop-test' = c.loop-at-test in
    told_last c.loop-at.invariant.0 loop-test'.true step-at'.ensures (c.in_ok-next.was ∙ ap (λ (x : Step). Ok x) c.in-Last.is) c.if-next-file.false

pub overflow_add-count : goal.overflow_add-count
overflow_add-count c = let r = c.loop-at.invariant.0 in omega (arith, r.far, r.counted, r.inside)

pub overflow_add-records : goal.overflow_add-records
overflow_add-records c = let r = c.loop-at.invariant.0 in omega (arith, r.far, r.counted, r.inside, few r)

pub loop-at-smaller-in-Listed : goal.loop-at-smaller-in-Listed
loop-at-smaller-in-Listed c =
    let step-at' = c.step_at in
    let loop-test' = c.loop-at-test in
    let t = told-listed c.loop-at.invariant.0 loop-test'.true step-at'.ensures (c.in_ok-next.was ∙ ap (λ (x : Step). Ok x) c.in-Listed.is) in
    omega (arith, t.1, t.0.inside)

pub loop-at-preserved-in-Listed : goal.loop-at-preserved-in-Listed
loop-at-preserved-in-Listed c =
    let step-at' = c.step_at in
    let loop-test' = c.loop-at-test in
    ((told-listed c.loop-at.invariant.0 loop-test'.true step-at'.ensures (c.in_ok-next.was ∙ ap (λ (x : Step). Ok x) c.in-Listed.is)).0, omega (arith, c.loop-at.invariant.1), omega (arith, c.loop-at.invariant.2))

pub overflow_add-count-in-Skipped : goal.overflow_add-count-in-Skipped
overflow_add-count-in-Skipped c = let r = c.loop-at.invariant.0 in omega (arith, r.far, r.counted, r.inside)

pub loop-at-smaller : goal.loop-at-smaller
loop-at-smaller c =
    let step-at' = c.step_at in
    let loop-test' = c.loop-at-test in
    let t = told-skipped c.loop-at.invariant.0 loop-test'.true step-at'.ensures (c.in_ok-next.was ∙ ap (λ (x : Step). Ok x) c.in-Skipped.is) in
    omega (arith, t.1, t.0.inside)

pub loop-at-preserved : goal.loop-at-preserved
loop-at-preserved c =
    let step-at' = c.step_at in
    let loop-test' = c.loop-at-test in
    ((told-skipped c.loop-at.invariant.0 loop-test'.true step-at'.ensures (c.in_ok-next.was ∙ ap (λ (x : Step). Ok x) c.in-Skipped.is)).0, omega (arith, c.loop-at.invariant.1), omega (arith, c.loop-at.invariant.2))

pub shape_of-ids : goal.shape_of-ids
shape_of-ids c = c.loop-at.invariant.1

pub shape_of-links : goal.shape_of-links
shape_of-links c = c.loop-at.invariant.2

pub returns : goal.returns
returns c = missing c.loop-at.invariant.0 (omega arith) _ _
