use Rattle.stick_names.proofs.Digests.{digests_on, digests_end}
use Rattle.stick_names.proofs.digest.Goals as goal

pub loop-b-preserved : goal.loop-b-preserved
loop-b-preserved c =
    let l = c.loop-b in
    rw c.lower.ensures (digests_on c.args.name.now l.d l.b-index c.loop-b-test.true l.invariant)

pub returns : goal.returns
returns c =
    let l = c.loop-b in
    digests_end c.args.name.now l.d l.b-index c.loop-b-test.false l.invariant
