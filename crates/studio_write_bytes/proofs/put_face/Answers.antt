-- `studio_write_bytes::put_face` meets its contract: four words, one behind the other.
use native.Mathlib.Omega.{arith}
use Rattle.shared_numbers.proofs.Put.{put_then}
use Rattle.studio_write_bytes.proofs.put_face.Goals as goal

pub returns : goal.returns
returns c =
    put_then (omega arith) c.put_word-second.ensures
    (put_then (omega arith) c.put_word-third.ensures
    (put_then (omega arith) c.put_word-flag.ensures c.put_word.ensures))
