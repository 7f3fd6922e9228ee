-- A list: a count of 4 bytes, and as many times k bytes.
use Prim.Native.Nat.{◌*◌}
use Rattle.cob_rules.specs.Body.{skip}
use Rattle.cob_body.proofs.Ends.{counted-ends, counted-not}
use Rattle.cob_body.proofs.list_end.Goals as goal

pub returns-in_err-n : goal.returns-in_err-n
returns-in_err-n c = rw c.from_residual.ensures (counted-not 4 (λ n. skip (c.args.k * n)) c.args.s.now c.args.at c.in_err-n.ensures.told)

pub returns : goal.returns
returns c = counted-ends (λ n. skip (c.args.k * n)) c.in_ok-n.ensures.told c.skip_bytes.ensures
