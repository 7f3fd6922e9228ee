-- The tables of the mesh of a body.
use lib.ListN.{length}
use mathlib.Core.Path.{refl, ◌∙◌}
use native.Mathlib.Nat.{div-mul-le_self}
use native.Mathlib.Omega.{arith}
use Rattle.shared_numbers.specs.Numbers.{long_at}
use Rattle.cob_tables.proofs.Answers.{faces-whole, no-vertices, no-corners, corners-room, all-filled}
use Rattle.cob_tables.proofs.put_tables.Goals as goal

pub returns-then-vertices-n : goal.returns-then-vertices-n
returns-then-vertices-n c = no-vertices c.lists_of-l.ensures refl (c.wide-n.ensures ∙ c.long_at.ensures.is) _ _ c.if-vertices-n.true

pub count_triangles-faces-requires : goal.count_triangles-faces-requires
count_triangles-faces-requires c = faces-whole c.lists_of-l.ensures (c.wide-count.ensures ∙ c.long_at-2.ensures.is)

pub returns-then-corners-faces : goal.returns-then-corners-faces
returns-then-corners-faces c =
    let count-triangles' = c.count_triangles-faces in
    let wide2' = c.wide-count in
    let long-at2' = c.long_at-2 in
    let if1' = c.if-vertices-n in
    let wide' = c.wide-n in
    let long-at' = c.long_at in
    let lists-of' = c.lists_of-l in
    no-corners lists-of'.ensures (wide2'.ensures ∙ long-at2'.ensures.is) (wide'.ensures ∙ long-at'.ensures.is) count-triangles'.ensures.0 _ _ if1'.false c.if-corners-faces.true

pub fill_float_bytes-requires : goal.fill_float_bytes-requires
unfolding long_at
fill_float_bytes-requires c = let h = c.lists_of-l.ensures.vertices-whole in
    let e = c.wide-n.ensures ∙ c.long_at.ensures.is in
    let v = c.args.vertices.now in
    (omega arith, omega (arith, div-mul-le_self (length v) 4, c.if-vertices-n.false))

pub fill_corners-requires : goal.fill_corners-requires
fill_corners-requires c =
    let if2' = c.if-corners-faces in
    let count-triangles' = c.count_triangles-faces in
    let wide2' = c.wide-count in
    let long-at2' = c.long_at-2 in
    let if1' = c.if-vertices-n in
    let wide' = c.wide-n in
    let long-at' = c.long_at in
    let lists-of' = c.lists_of-l in
    let args' = c.args in
    let x = args' in
    let h = lists-of'.ensures in
    let e = wide2'.ensures ∙ long-at2'.ensures.is in
    (faces-whole h e, corners-room h e (wide'.ensures ∙ long-at'.ensures.is) count-triangles'.ensures.0 x.vertices.now x.corners.now if1'.false if2'.false)

pub returns : goal.returns
returns c =
    let fill-corners' = c.fill_corners in
    let fill-float-bytes' = c.fill_float_bytes in
    let if2' = c.if-corners-faces in
    let count-triangles' = c.count_triangles-faces in
    let wide2' = c.wide-count in
    let long-at2' = c.long_at-2 in
    let if1' = c.if-vertices-n in
    let wide' = c.wide-n in
    let long-at' = c.long_at in
    let lists-of' = c.lists_of-l in
    all-filled lists-of'.ensures (wide2'.ensures ∙ long-at2'.ensures.is) (wide'.ensures ∙ long-at'.ensures.is) count-triangles'.ensures.0 _ _
    if1'.false if2'.false fill-float-bytes'.ensures fill-corners'.ensures
