-- A space, and the digits.
use native.Mathlib.Omega.{arith}
use Rattle.shared_numbers.proofs.Put.{put_then}
use Rattle.listing_text.proofs.put_field.Goals as goal

pub returns-clause-text : goal.returns-clause-text
returns-clause-text c = put_then (omega arith) c.put_byte.ensures c.put_decimal.ensures.text
