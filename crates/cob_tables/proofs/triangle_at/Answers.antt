-- The first of so many faces.
use mathlib.Core.Path.{sym, ◌∙◌}
use Rattle.cob_mesh.proofs.Faces.{first_fits, rest-whole}
use Rattle.cob_tables.proofs.Faces.{no-hole, no-three, no_whole, is-triangle}
use Rattle.cob_tables.proofs.triangle_at.Goals as goal

pub face_at-f-requires : goal.face_at-f-requires
face_at-f-requires c = first_fits c.requires.0 c.requires.1

pub returns-then-f : goal.returns-then-f
returns-then-f c = no-hole c.requires.0 c.requires.1 c.face_at-f.ensures c.if-f.true

pub returns-then-f-ne3 : goal.returns-then-f-ne3
returns-then-f-ne3 c = no-three c.requires.0 c.requires.1 c.face_at-f.ensures c.if-f.false c.if-f-ne3.true

pub hole_first-requires : goal.hole_first-requires
hole_first-requires c = rest-whole c.requires.0 c.requires.1 c.face_at-f.ensures

pub returns-then-hole_first : goal.returns-then-hole_first
returns-then-hole_first c =
    let hole-first' = c.hole_first in
    let face-at' = c.face_at-f in
    let pre' = c.requires in
    no_whole pre'.0 pre'.1 face-at'.ensures (sym hole-first'.ensures ∙ c.if-hole_first.true)

pub returns : goal.returns
returns c =
    let hole-first' = c.hole_first in
    let if2' = c.if-f-ne3 in
    let if1' = c.if-f in
    let face-at' = c.face_at-f in
    let pre' = c.requires in
    is-triangle pre'.0 pre'.1 face-at'.ensures if1'.false if2'.false (sym hole-first'.ensures ∙ c.if-hole_first.false)
