use Rattle.shared_name_tree.proofs.Way.{mixing_on, mixing_all}
use Rattle.shared_name_tree.proofs.mix.Goals as goal

pub loop-b-preserved : goal.loop-b-preserved
loop-b-preserved c =
    let l = c.loop-b in
    mixing_on c.args.name.now l.m l.b-index l.invariant c.loop-b-test.true

pub returns : goal.returns
returns c =
    let l = c.loop-b in
    (mixing_all c.args.name.now l.m l.b-index l.invariant c.loop-b-test.false, l.invariant.small)
