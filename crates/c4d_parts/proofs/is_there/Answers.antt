-- The bit, tested by a shift.
use native.Mathlib.Omega.{arith}
use Rattle.c4d_parts.proofs.Bits.{there-is}
use Rattle.c4d_parts.proofs.is_there.Goals as goal

pub returns : goal.returns
returns c = λ ids e. rw e (there-is ids c.args.id (omega arith) (omega arith))
