-- `body_at` meets its contract.
use mathlib.Core.Path.{sym, ap, ◌∙◌}
use native.Mathlib.Omega.{arith}
use Rattle.cob_step.specs.Steps.{fault_of}
use Rattle.cob_step.proofs.Stepped.{ok-before, good-ends}
use Rattle.cob_step.proofs.body_at.Goals as goal

pub overflow_add-result-2 : goal.overflow_add-result-2
overflow_add-result-2 c = let x = c.args in
    let e = sym c.judge_chunk.ensures ∙ ok-before c.judge_chunk.result c.in_ok-n.n _ c.in_ok-n.ensures.cases (λ f h. h) in
    omega (arith, (good-ends x.file.now x.at _ c.requires.header e).inside)

pub returns : goal.returns
returns c = let x = c.args in
    let e = sym c.judge_chunk.ensures ∙ ok-before c.judge_chunk.result c.in_ok-n.n _ c.in_ok-n.ensures.cases (λ f h. h) in
    record { told = (ap (fault_of x.at) e, good-ends x.file.now x.at _ c.requires.header e) }
