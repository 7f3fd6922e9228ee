-- The sum of the two bytes, the second times 256, is the number at the position.
use native.Mathlib.Omega.{arith}
use Rattle.shared_numbers.proofs.At.{word_bytes}
use Rattle.shared_numbers.proofs.word_at.Goals as goal

pub returns : goal.returns
returns c =
    let a = c.args in
    record { is = omega (arith, c.from_le_bytes.ensures, word_bytes a.s.now a.at (omega arith)); small = omega arith }
