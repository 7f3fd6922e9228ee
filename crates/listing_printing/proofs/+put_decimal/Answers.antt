-- One digit, or those of a tenth and the last one.
use Prim.Native.Nat.{◌/◌}
use native.Mathlib.Omega.{arith}
use Rattle.shared_numbers.proofs.Put.{put_then}
use Rattle.listing_printing.proofs.Decimal.{one_digit, last_digit, short}
use Rattle.listing_printing.proofs.+put_decimal.Goals as goal

pub returns-then-n-lt10-clause-text : goal.returns-then-n-lt10-clause-text
returns-then-n-lt10-clause-text t c = rw (one_digit c.args.n (omega arith), ← c.digit.ensures) c.put_byte.ensures

pub put_byte-requires-2 : goal.put_byte-requires-2
put_byte-requires-2 t c = omega (arith, c.put_decimal-last.ensures.text.ends, short 18 (c.args.n / 10) (omega arith))

pub returns-clause-text : goal.returns-clause-text
returns-clause-text t c =
    rw (last_digit c.args.n (omega arith), ← c.digit-2.ensures)
    (put_then (omega arith) c.put_decimal-last.ensures.text c.put_byte-2.ensures)

pub returns-clause-within : goal.returns-clause-within
returns-clause-within t c = omega (arith, c.put_decimal-last.ensures.text.ends, short 18 (c.args.n / 10) (omega arith))
