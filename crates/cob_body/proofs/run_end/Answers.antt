use mathlib.Core.Path.{◌≡◌}
use Prim.Native.Nat.{◌+◌, ◌-◌}
use native.Mathlib.Omega.{arith}
use Rattle.cob_body.proofs.Parts.{run_on, run-stops, run_ends}
use Rattle.cob_body.proofs.run_end.Goals as goal

pub loop-init : goal.loop-init
loop-init c = let e : c.args.n - 0 ≡ c.args.n = omega arith in record { is = rw e; from = omega arith; to = omega arith }

pub returns-in_err-o : goal.returns-in_err-o
returns-in_err-o c = rw c.from_residual.ensures (run-stops c.loop.invariant (omega arith) c.in_err-o.ensures)

pub loop-preserved : goal.loop-preserved
loop-preserved c =
    let e : c.args.n - (c.loop.counter + 1) ≡ c.args.n - c.loop.counter - 1 = omega arith in
    rw e (run_on c.loop.invariant (omega arith) c.in_ok-o.ensures)

pub returns : goal.returns
returns c = run_ends c.loop.invariant (omega arith)
