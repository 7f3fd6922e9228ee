-- The word, the number, the place, and the line's end.
use native.Mathlib.Omega.{arith}
use Rattle.shared_numbers.proofs.Put.{put_then}
use Rattle.listing_text.specs.Lines.{refusal_line}
use Rattle.listing_text.proofs.put_refusal.Goals as goal

pub returns-clause-text : goal.returns-clause-text
unfolding refusal_line
returns-clause-text c =
    rw (← c.number.ensures.is, ← c.place.ensures)
    (put_then (omega arith) c.put_text-number.ensures
    (put_then (omega arith) c.put_field-place.ensures.text
    (put_then (omega arith) c.put_field-end.ensures.text c.put_byte.ensures)))
