-- A face or a hole.
use borrow.Author.Tests.{eq-eqb, ne_eqb}
use mathlib.Core.Bool.{true, false}
use native.Mathlib.Omega.{arith}
use Rattle.cob_body.proofs.Parts.{face-none, face-ends, face-bad}
use Rattle.cob_body.proofs.face_end.Goals as goal

pub returns-then-s-at : goal.returns-then-s-at
returns-then-s-at c = face-none _ _ c.if-s-at.true

pub returns-in_err-n : goal.returns-in_err-n
returns-in_err-n c = rw c.from_residual.ensures (face-bad c.if-s-at.false c.in_err-n.ensures.told)

pub returns-then-flags-eq1 : goal.returns-then-flags-eq1
returns-then-flags-eq1 c = face-ends c.if-s-at.false true _ (eq-eqb _ _ c.if-flags-eq1.true) (omega arith) c.in_ok-n.ensures.told c.skip_bytes.ensures

pub returns-else-flags-eq1 : goal.returns-else-flags-eq1
returns-else-flags-eq1 c =
    face-ends c.if-s-at.false false _ (ne_eqb _ _ c.if-flags-eq1.false) (omega arith) c.in_ok-n.ensures.told c.skip_bytes-else-flags-eq1.ensures
