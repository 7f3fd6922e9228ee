use mathlib.Core.Path.{◌≡◌}
use native.Mathlib.Omega.{arith}
use Rattle.shared_labels.proofs.Faults.{fits-eight}
use Rattle.shared_labels.proofs.skip_eights.Goals as goal

pub returns-then-n-lt8 : goal.returns-then-n-lt8
returns-then-n-lt8 c =
    let a = c.args in
    let l = c.loop-i in
    let n = c.printable_front-n in
    (fits-eight a.s.now a.at l.i a.end n.result l.invariant (omega arith) n.ensures).1

pub loop-i-preserved : goal.loop-i-preserved
loop-i-preserved c =
    let a = c.args in
    let l = c.loop-i in
    let n = c.printable_front-n in
    let f = fits-eight a.s.now a.at l.i a.end n.result l.invariant (omega arith) n.ensures in
    let all : n.result ≡ 8 = omega (arith, f.0) in
    rw all at f.1
