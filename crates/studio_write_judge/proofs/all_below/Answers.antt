use Prim.Native.Nat.{◌≤◌, ◌<◌}
use native.Mathlib.Omega.{arith}
use lib.ListN.{get_or}
use borrow.Author.Tests.{lt-ltb, le-ltb}
use Rattle.shared_words.proofs.FirstFault.{told_none, told-good, told-bad, told-all}
use Rattle.studio_write_judge.proofs.all_below.Invariants.{below}
use Rattle.studio_write_judge.proofs.all_below.Goals as goal
use Rattle.studio_write_judge.proofs.all_below.Goals.{then-n-corner, else-n-corner}

pub loop-corner-init : goal.loop-corner-init
loop-corner-init c = told_none (below _) _

pub loop-corner-preserved : goal.loop-corner-preserved
loop-corner-preserved c =
    let a = c.args in
    let l = c.loop-corner in
    let x = get_or a.corners.now l.corner-index 0 in
    elim c.if-n-corner.branch [
      | then-n-corner w ↦
          let h : a.n ≤ x = omega arith in rw w.good-is (told-bad (below a.n) a.corners.now l.corner-index 0 (omega arith) l.good l.invariant (le-ltb _ _ h))
      | else-n-corner w ↦
          let h : x < a.n = omega arith in rw w.good-is (told-good (below a.n) a.corners.now l.corner-index 0 (omega arith) l.good l.invariant (lt-ltb _ _ h))
    ]

pub returns : goal.returns
returns c = told-all (below _) _ c.loop-corner.good c.loop-corner.corner-index (omega arith) c.loop-corner.invariant
