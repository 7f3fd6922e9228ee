-- The number is the sum of its bytes at their powers of 256.
use native.Mathlib.Omega.{arith}
use Rattle.shared_big_endian.proofs.At.{long-is}
use Rattle.shared_big_endian.proofs.long_at.Goals as goal

pub returns : goal.returns
returns c =
    let a = c.args in
    let w = long-is a.s.now a.at (omega arith) in
    record { is = omega (arith, c.from_be_bytes.ensures, w); small = omega arith }
