use native.Mathlib.Omega.{arith}
use Rattle.stick_judge.proofs.Going.{passed_none, passed_off, passed_on, passed-all}
use Rattle.stick_judge.proofs.judge_entries.Goals as goal

pub loop-k-init : goal.loop-k-init
loop-k-init c = passed_none _ _

pub returns-then-matched-k-eq0 : goal.returns-then-matched-k-eq0
returns-then-matched-k-eq0 c = let x = c in let l = c.loop-k in passed_off x.args.n x.args.matched.now l.k l.invariant (omega arith) x.requires c.if-matched-k-eq0.true

pub loop-k-preserved : goal.loop-k-preserved
loop-k-preserved c = let x = c in let l = c.loop-k in passed_on x.args.n x.args.matched.now l.k l.invariant (omega arith) x.requires c.if-matched-k-eq0.false

pub returns : goal.returns
returns c = let x = c in let l = c.loop-k in passed-all x.args.n x.args.matched.now l.k l.invariant (omega arith)
