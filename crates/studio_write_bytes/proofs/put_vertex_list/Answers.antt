-- `studio_write_bytes::put_vertex_list` meets its contract: the header, the count, then the floats.
use Prim.Native.Nat.{◌+◌, ◌*◌}
use native.Mathlib.Omega.{arith}
use Rattle.studio_write_judge.specs.Judged.{triples}
use Rattle.studio_write_bytes.specs.Bare.{vertex_data}
use Rattle.studio_write_bytes.proofs.Bare.{leaf-bytes, length-vertex_data}
use Rattle.shared_numbers.proofs.Put.{put_then}
use Rattle.studio_write_bytes.proofs.put_vertex_list.Goals as goal

pub put_floats-requires : goal.put_floats-requires
put_floats-requires c = record { vertices_value = c.requires.vertices_len.2; vertices_in_bounds = omega arith }

pub returns : goal.returns
returns c =
    let s = c in
    let vertices = s.args.vertices.now in
    let length-is = length-vertex_data vertices s.requires.vertices_len.0 in
    rw (leaf-bytes 0x4110 (vertex_data vertices) (8 + 12 * triples vertices) (omega arith))
    (put_then (omega arith) c.put_header-count.ensures (put_then (omega arith) c.put_word-floats.ensures c.put_floats.ensures))
