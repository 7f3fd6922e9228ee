-- `studio_write_bytes::put_header` meets its contract: the identifier, then the length.
use native.Mathlib.Omega.{arith}
use Rattle.shared_numbers.proofs.Put.{put_then}
use Rattle.studio_write_bytes.proofs.put_header.Goals as goal

pub returns : goal.returns
returns c = put_then (omega arith) c.put_word.ensures c.put_long.ensures
