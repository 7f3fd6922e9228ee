-- A string: its length, and its bytes.
use Prim.Native.Nat.{◌*◌}
use native.Mathlib.Nat.{one-mul}
use Rattle.cob_rules.specs.Body.{skip}
use Rattle.cob_body.proofs.Ends.{counted-ends, counted-not}
use Rattle.cob_body.proofs.string_end.Goals as goal

pub returns-in_err-n : goal.returns-in_err-n
returns-in_err-n c = rw c.from_residual.ensures (counted-not 2 (λ n. skip (1 * n)) c.args.s.now c.args.at c.in_err-n.ensures.told)

pub returns : goal.returns
returns c = counted-ends (λ n. skip (1 * n)) c.in_ok-n.ensures.told (rw one-mul c.skip_bytes.ensures)
