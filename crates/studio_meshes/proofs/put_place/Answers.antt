-- Two numbers, and three times two.
use native.Mathlib.Omega.{arith}
use Rattle.shared_numbers.proofs.Put.{put_then}
use Rattle.studio_meshes.proofs.put_place.Goals as goal

pub put_elements-pairs-requires : goal.put_elements-pairs-requires
put_elements-pairs-requires c =
    let named = c in
    let x = named.requires in
    let small = x.0.1.1.1.1 in
    (small.0, small.1.0, omega (arith, x.1, named.put_long-size.ensures.ends, named.put_long-vertices.ensures.ends, c.put_elements-faces.ensures.ends))

pub put_elements-requires : goal.put_elements-requires
put_elements-requires c =
    let named = c in
    let x = named.requires in
    let small = x.0.1.1.1.1.1.1 in
    (small.0, small.1.0, omega (arith, x.1))

pub returns : goal.returns
returns c =
    let named = c in
    let x = named.requires in
    let name = put_then (omega (arith, x.1)) named.put_long-size.ensures named.put_long-vertices.ensures in
    let vertices = put_then (omega (arith, x.1)) name c.put_elements-faces.ensures in
    let faces = put_then (omega (arith, x.1)) vertices c.put_elements-pairs.ensures in
    put_then (omega (arith, x.1)) faces c.put_elements.ensures
