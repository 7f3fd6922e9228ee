use mathlib.Core.Path.{refl}
use native.Mathlib.Omega.{arith}
use mathlib.Core.List.{map}
use lib.Ieee.{binary32, nan, to_bits}
use lib.ListN.{length-map, get_or-map}
use lib.Seq.{take_all}
use Rattle.shared_words.proofs.Bytes.{packed_more}
use Rattle.studio_write_judge.specs.Judged.{finite_float}
use Rattle.shared_numbers.proofs.Numbers.{every-at}
use Rattle.studio_write_bytes.proofs.Floats.{not-nan}
use Rattle.shared_numbers.proofs.Put.{put-none, put_then}
use Rattle.studio_write_bytes.proofs.put_floats.Goals as goal

pub loop-x-init : goal.loop-x-init
loop-x-init c = (refl, omega arith, put-none _ _)

pub float_to_bits-x : goal.float_to_bits-x
float_to_bits-x c =
    let s = c in
    let i = c.loop-x.x-index in
    not-nan _ (every-at finite_float s.args.vertices.now i nan (omega arith) s.requires.vertices_value)

pub loop-x-preserved : goal.loop-x-preserved
loop-x-preserved c =
    let a = c.args in
    let l = c.loop-x in
    let bits = map (to_bits binary32) a.vertices.now in
    let put = c.put_long-next in (
      omega arith,
      omega (arith, put.ensures.ends),
      rw (packed_more 4 bits l.x-index (to_bits binary32 nan) (omega (arith, length-map a.vertices.now (to_bits binary32))), get_or-map (to_bits binary32) a.vertices.now l.x-index nan) (put_then (omega arith) l.invariant.2 put.ensures),
    )

pub shape_of-out : goal.shape_of-out
shape_of-out c = c.loop-x.invariant.0

pub returns : goal.returns
returns c =
    let l = c.loop-x in
    let vertices = c.args.vertices.now in
    rw (take_all l.x-index (map (to_bits binary32) vertices) (omega (arith, length-map vertices (to_bits binary32)))) at l.invariant.2
