-- The bytes of the floats are those that stand in the file.
use Prim.Native.Nat.{◌*◌, ◌≤◌}
use native.Mathlib.Omega.{arith}
use lib.ListN.{length, drop, length-drop}
use Rattle.shared_words.proofs.Numbers.{numbers-bytes}
use Rattle.shared_words.proofs.Bytes.{bytes_drop, bytes-all}
use Rattle.shared_numbers.proofs.Put.{put_front}
use Rattle.studio_mesh_rows.proofs.fill_float_bytes.Goals as goal

pub returns : goal.returns
returns c =
    let a = c.args in
    let s = a.s.now in
    let f = drop a.at s in
    let b = bytes-all s (λ i. omega (arith, c.type_inv.s i)) in
    let l : 4 * a.n ≤ length f = omega (arith, length-drop a.at s) in
    rw (numbers-bytes 4 a.n f (bytes_drop a.at s b) l) (put_front c.put_part.ensures)
