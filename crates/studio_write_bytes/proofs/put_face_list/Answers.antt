-- `studio_write_bytes::put_face_list` meets its contract: the header, the count, then the faces.
use Prim.Native.Nat.{◌+◌, ◌*◌}
use native.Mathlib.Omega.{arith}
use Rattle.studio_write_judge.specs.Judged.{triples}
use Rattle.studio_write_bytes.specs.Bare.{face_data}
use Rattle.studio_write_bytes.proofs.Bare.{leaf-bytes, length-face_data}
use Rattle.shared_numbers.proofs.Put.{put_then}
use Rattle.studio_write_bytes.proofs.put_face_list.Goals as goal

pub returns : goal.returns
returns c =
    let corners = c.args.corners.now in
    rw (leaf-bytes 0x4120 (face_data corners) (8 + 8 * triples corners) (omega (arith, length-face_data corners)))
    (put_then (omega arith) c.put_header-count.ensures (put_then (omega arith) c.put_word-faces.ensures c.put_faces.ensures))
