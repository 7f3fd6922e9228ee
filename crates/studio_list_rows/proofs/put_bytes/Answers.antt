-- Seven numbers of four bytes, one behind the other.
use native.Mathlib.Omega.{arith}
use Rattle.shared_numbers.proofs.Put.{put_then, put-sets}
use Rattle.studio_list_rows.proofs.put_bytes.Goals as goal

pub returns : goal.returns
returns c =
    put-sets (omega arith)
    (put_then (omega arith) c.put_long-offset.ensures
    (put_then (omega arith) c.put_long-len.ensures
    (put_then (omega arith) c.put_long-depth.ensures
    (put_then (omega arith) c.put_long-parent.ensures
    (put_then (omega arith) c.put_long-own.ensures
    (put_then (omega arith) c.put_long-next.ensures
    c.put_long.ensures))))))
