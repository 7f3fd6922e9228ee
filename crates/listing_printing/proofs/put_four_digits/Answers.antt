-- Four digits, one behind the other.
use native.Mathlib.Omega.{arith}
use Rattle.shared_numbers.proofs.Put.{put_then}
use Rattle.listing_printing.proofs.put_four_digits.Goals as goal

pub returns : goal.returns
returns c =
    rw (← c.digit.ensures, ← c.digit-2.ensures, ← c.digit-3.ensures, ← c.digit-4.ensures)
    (put_then (omega arith) c.put_byte-second.ensures
    (put_then (omega arith) c.put_byte-third.ensures
    (put_then (omega arith) c.put_byte-fourth.ensures c.put_byte.ensures)))
