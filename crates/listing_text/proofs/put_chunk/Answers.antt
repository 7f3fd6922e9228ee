-- The depth, the identifier, two numbers, and the line's end.
use native.Mathlib.Omega.{arith}
use Rattle.shared_numbers.proofs.Put.{put_then}
use Rattle.listing_text.specs.Lines.{chunk_line}
use Rattle.listing_text.proofs.put_chunk.Goals as goal

pub returns-clause-text : goal.returns-clause-text
unfolding chunk_line
returns-clause-text c =
    put_then (omega arith) c.put_decimal-space.ensures.text
    (put_then (omega arith) c.put_byte-digits.ensures
    (put_then (omega arith) c.put_four_digits-first.ensures
    (put_then (omega arith) c.put_field-second.ensures.text
    (put_then (omega arith) c.put_field-end.ensures.text c.put_byte.ensures))))
