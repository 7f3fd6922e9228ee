-- What stands behind the letter of a map: its flags, a string and k bytes.
use Rattle.cob_rules.specs.Body.{counted, skip, and_then}
use Rattle.cob_body.proofs.Ends.{then_ends, then_not}
use Rattle.cob_body.proofs.Parts.{plain-string}
use Rattle.cob_body.proofs.map_data_end.Goals as goal

pub returns-in_err-path : goal.returns-in_err-path
returns-in_err-path c = rw c.from_residual.ensures (then_not (λ t. and_then (counted 2 (λ n. skip n) t) (skip c.args.k)) c.in_err-path.ensures)

pub returns-in_err-rest : goal.returns-in_err-rest
returns-in_err-rest c = rw c.from_residual-in_err-rest.ensures (then_ends c.in_ok-path.ensures (then_not (skip c.args.k) (plain-string c.in_err-rest.ensures)))

pub returns : goal.returns
returns c = then_ends c.in_ok-path.ensures (then_ends (plain-string c.in_ok-rest.ensures) c.skip_bytes-2.ensures)
