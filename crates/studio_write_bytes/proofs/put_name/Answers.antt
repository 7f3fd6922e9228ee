-- `studio_write_bytes::put_name` meets its contract: the name is copied to its place, and its zero is put behind it.
use mathlib.Core.Path.{ap, ◌∙◌}
use native.Mathlib.Omega.{arith}
use lib.ListN.{length}
use lib.Seq.{take_all, length-sets}
use Rattle.shared_numbers.proofs.Put.{put_byte, put_then, put-sets}
use Rattle.studio_write_bytes.proofs.put_name.Goals as goal

pub returns : goal.returns
returns c =
    let name = c.args.name.now in
    let whole = take_all (length name) name (omega arith) in
    let put = rw whole at c.put_part-end.ensures in
    let long = ap length (put-sets (omega arith) put) ∙ length-sets c.args.out.now c.args.at name in
    put_then (omega arith) put (put_byte _ _ 0 (omega (arith, long)))
