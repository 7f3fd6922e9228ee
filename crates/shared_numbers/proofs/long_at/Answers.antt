-- The sum of the bytes, each times its weight, is the number at the position.
use native.Mathlib.Omega.{arith}
use Rattle.shared_numbers.proofs.At.{long-bytes}
use Rattle.shared_numbers.proofs.long_at.Goals as goal

pub returns : goal.returns
returns c =
    let a = c.args in
    record { is = omega (arith, c.from_le_bytes.ensures, long-bytes a.s.now a.at (omega arith)); small = omega arith }
