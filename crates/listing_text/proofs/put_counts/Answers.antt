-- The word, four numbers, and the line's end.
use native.Mathlib.Omega.{arith}
use Rattle.shared_numbers.proofs.Put.{put_then}
use Rattle.listing_text.specs.Lines.{counts_line}
use Rattle.listing_text.proofs.put_counts.Goals as goal

pub returns-clause-text : goal.returns-clause-text
unfolding counts_line
returns-clause-text c =
    put_then (omega arith) c.put_text-first.ensures
    (put_then (omega arith) c.put_field-headers.ensures.text
    (put_then (omega arith) c.put_field-own.ensures.text
    (put_then (omega arith) c.put_field-skipped.ensures.text
    (put_then (omega arith) c.put_field-end.ensures.text c.put_byte.ensures))))
