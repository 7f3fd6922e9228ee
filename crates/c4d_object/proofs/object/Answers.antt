use mathlib.Core.Path.{◌≡◌, refl, ◌∙◌, subst}
use mathlib.Core.List.{List}
use mathlib.Core.Option.{some}
use Prim.Native.Nat.{ℕ, ◌+◌, ◌≤◌}
use native.Mathlib.Omega.{arith}
use lib.ListN.{length}
use Rattle.std.proofs.lemmas.Result.{err_from_is_err_and}
use Rattle.c4d_rules.specs.Blocks.{object_header}
use Rattle.c4d_rules.specs.Kinds.{t_texture}
use Rattle.c4d_rules.specs.Rules.{identifiers}
use Rattle.c4d_blocks.specs.Headers.{block_in, Tells, Sees}
use Rattle.c4d_blocks.proofs.Headers.{head_there}
use Rattle.c4d_held.specs.Held.{number_of, last_of, Is}
use Rattle.c4d_parts.proofs.Numbered.{not-numbered, is-numbered}
use Rattle.c4d_object.proofs.Ahead.{block-is, cut, open_at_end}
use Rattle.c4d_object.proofs.Reading.{reading-none, present_small, fault-there, object-again, mixed, whole, another, textured}
use Rattle.c4d_object.proofs.object.Goals as goal

-- the block that is judged, where it is a texture
is_texture : (s : List ℕ) (at to id len : ℕ) → to ≤ length s → Tells object_header s at to id len → id ≡ t_texture → Is s at t_texture len (block_in object_header s at to)
is_texture s at to id len k t e = subst (λ (i : ℕ). Is s at i len (block_in object_header s at to)) e (block-is s at to id len k t)

-- a texture of 64 bytes fits
room : (s : List ℕ) (at to id len : ℕ) → Tells object_header s at to id len → length (block_in object_header s at to).body ≡ 64 → at + 68 ≤ to
room s at to id len t j =
    let f = t.fits in
    let z = t.len_is ∙ j in
    omega arith

pub object_head-head-requires : goal.object_head-head-requires
object_head-head-requires c = let p = c.requires in (p.0, p.1)

pub loop-at-init : goal.loop-at-init
loop-at-init c =
    let a = c.args in (
      reading-none a.file.now (last_of a.below) a.chunk a.from a.to a.row a.notes.now c.begun-held.result c.begun-held.ensures c.requires.0,
      c.object_head-head.ensures,
    )

pub object_at-requires : goal.object_at-requires
object_at-requires c = let i = c.loop-at.invariant in (i.0.within, head_there i.1)

pub shape_of-notes-in_default : goal.shape_of-notes-in_default
shape_of-notes-in_default c = c.loop-at.invariant.0.same-long

pub returns-in_default : goal.returns-in_default
returns-in_default c = λ begun.
    let a = c.args in
    let p = c.requires in
    let l = c.loop-at in
    let e = subst (Sees object_header a.file.now l.at a.to) c.in_default.is (c.object_at.ensures a.file.now p.1 l.invariant.1) in
    l.invariant.0.goes begun ∙ cut a.file.now (last_of a.below) a.chunk a.to p.1 begun (some l.invariant.0.blocks) l.at (omega arith) e

pub overflow_add-next : goal.overflow_add-next
overflow_add-next c =
    let a = c.args in
    let l = c.loop-at in
    let b = c.in-Some.field-0 in
    let t : Tells object_header a.file.now l.at a.to b.id b.len = c.in-Some.ensures a.file.now c.requires.1 l.invariant.1 in
    omega (arith, t.fits, c.requires.1)

pub overflow_add-next-in-loop-at : goal.overflow_add-next-in-loop-at
overflow_add-next-in-loop-at c =
    let a = c.args in
    let l = c.loop-at in
    let b = c.in-Some.field-0 in
    let t : Tells object_header a.file.now l.at a.to b.id b.len = c.in-Some.ensures a.file.now c.requires.1 l.invariant.1 in
    omega (arith, t.fits, c.requires.1)

pub shape_of-notes-in_default-combined : goal.shape_of-notes-in_default-combined
shape_of-notes-in_default-combined c =
    let l = c.loop-at in
    l.invariant.0.same-long

pub returns-in_default-combined : goal.returns-in_default-combined
returns-in_default-combined c =
    let a = c.args in
    let l = c.loop-at in
    let b = c.in-Some.field-0 in
    let t : Tells object_header a.file.now l.at a.to b.id b.len = c.in-Some.ensures a.file.now c.requires.1 l.invariant.1 in
    let i = l.invariant.0 in
    mixed a.file.now (last_of a.below) a.chunk a.from a.to a.row a.notes.now i c.requires.1 (omega arith) b.id b.len t c.if-id-eq-T_END.true (number_of (identifiers i.blocks)) refl
    (not-numbered (number_of (identifiers i.blocks)) (c.in_default-combined.ensures.is (identifiers i.blocks) i.held-is))

pub shape_of-notes-then-id-eq-T_END : goal.shape_of-notes-then-id-eq-T_END
shape_of-notes-then-id-eq-T_END c =
    let l = c.loop-at in
    l.invariant.0.same-long

pub returns-then-id-eq-T_END : goal.returns-then-id-eq-T_END
returns-then-id-eq-T_END c =
    let a = c.args in
    let l = c.loop-at in
    let b = c.in-Some.field-0 in
    let t : Tells object_header a.file.now l.at a.to b.id b.len = c.in-Some.ensures a.file.now c.requires.1 l.invariant.1 in
    let i = l.invariant.0 in
    let n = is-numbered (number_of (identifiers i.blocks)) c.in-Some-combined.number (c.in-Some-combined.ensures.is (identifiers i.blocks) i.held-is) in
    whole a.file.now (last_of a.below) a.chunk a.from a.to a.row a.notes.now i c.requires.1 (omega arith) b.id b.len t c.if-id-eq-T_END.true c.in-Some-combined.number n.0 n.1 c.in-Some-combined.ensures.small

pub shape_of-notes-then-id-eq-T_OBJECT : goal.shape_of-notes-then-id-eq-T_OBJECT
shape_of-notes-then-id-eq-T_OBJECT c =
    let l = c.loop-at in
    l.invariant.0.same-long

pub returns-then-id-eq-T_OBJECT : goal.returns-then-id-eq-T_OBJECT
returns-then-id-eq-T_OBJECT c =
    let a = c.args in
    let l = c.loop-at in
    let b = c.in-Some.field-0 in
    let t : Tells object_header a.file.now l.at a.to b.id b.len = c.in-Some.ensures a.file.now c.requires.1 l.invariant.1 in
    object-again a.file.now (last_of a.below) a.chunk a.from a.to a.row a.notes.now l.invariant.0 c.requires.1 (omega arith) b.id b.len t c.if-id-eq-T_OBJECT.true

pub with_one-held-requires : goal.with_one-held-requires
with_one-held-requires c =
    let a = c.args in
    let l = c.loop-at in
    present_small a.file.now (last_of a.below) a.chunk a.from a.to a.row a.notes.now l.invariant.0

pub object_head-head-requires-then-id-ne-T_TEXTURE : goal.object_head-head-requires-then-id-ne-T_TEXTURE
object_head-head-requires-then-id-ne-T_TEXTURE c =
    let a = c.args in
    let l = c.loop-at in
    let b = c.in-Some.field-0 in
    let t : Tells object_header a.file.now l.at a.to b.id b.len = c.in-Some.ensures a.file.now c.requires.1 l.invariant.1 in
    (t.fits, c.requires.1)

pub loop-at-smaller-then-id-ne-T_TEXTURE : goal.loop-at-smaller-then-id-ne-T_TEXTURE
loop-at-smaller-then-id-ne-T_TEXTURE c =
    let a = c.args in
    let l = c.loop-at in
    let b = c.in-Some.field-0 in
    let t : Tells object_header a.file.now l.at a.to b.id b.len = c.in-Some.ensures a.file.now c.requires.1 l.invariant.1 in
    omega (arith, t.fits)

pub loop-at-preserved-then-id-ne-T_TEXTURE : goal.loop-at-preserved-then-id-ne-T_TEXTURE
loop-at-preserved-then-id-ne-T_TEXTURE c =
    let a = c.args in
    let l = c.loop-at in
    let b = c.in-Some.field-0 in
    let t : Tells object_header a.file.now l.at a.to b.id b.len = c.in-Some.ensures a.file.now c.requires.1 l.invariant.1 in (
      another a.file.now (last_of a.below) a.chunk a.from a.to a.row a.notes.now l.invariant.0 c.requires.1 (omega arith) b.id b.len t c.if-id-eq-T_END.false c.if-id-eq-T_OBJECT.false
          c.with_one-held.result c.with_one-held.ensures c.if-id-ne-T_TEXTURE.true,
      c.object_head-head-then-id-ne-T_TEXTURE.ensures,
    )

pub judge_texture-requires : goal.judge_texture-requires
judge_texture-requires c =
    let a = c.args in
    let l = c.loop-at in
    let b = c.in-Some.field-0 in
    let t : Tells object_header a.file.now l.at a.to b.id b.len = c.in-Some.ensures a.file.now c.requires.1 l.invariant.1 in
    (omega (arith, t.fits, c.requires.1), c.requires.2)

pub shape_of-notes-in_err-material : goal.shape_of-notes-in_err-material
shape_of-notes-in_err-material c =
    let l = c.loop-at in
    l.invariant.0.same-long

pub returns-in_err-material : goal.returns-in_err-material
returns-in_err-material c =
    let a = c.args in
    let l = c.loop-at in
    let b = c.in-Some.field-0 in
    let t : Tells object_header a.file.now l.at a.to b.id b.len = c.in-Some.ensures a.file.now c.requires.1 l.invariant.1 in
    let j = c.in_err-material.ensures (block_in object_header a.file.now l.at a.to) l.invariant.0.blocks (is_texture a.file.now l.at a.to b.id b.len c.requires.1 t c.if-id-ne-T_TEXTURE.false) in
    let p = err_from_is_err_and c.from_residual.result c.from_residual.ensures.1 in
    rw (p.1, p.2) (fault-there a.file.now (last_of a.below) a.chunk a.from a.to a.row a.notes.now l.invariant.0 c.requires.1 (omega arith) b.id b.len t c.in_err-material.field-0.0 j)

pub overflow_add-row : goal.overflow_add-row
overflow_add-row c =
    omega (arith, c.requires.1, c.requires.3, c.requires.0)

pub overflow_add-row-in-loop-at : goal.overflow_add-row-in-loop-at
overflow_add-row-in-loop-at c =
    let l = c.loop-at in
    omega (arith, c.requires.1, c.requires.3, l.invariant.0.passed)

pub note-requires : goal.note-requires
note-requires c =
    let a = c.args in
    let l = c.loop-at in
    let b = c.in-Some.field-0 in
    let t : Tells object_header a.file.now l.at a.to b.id b.len = c.in-Some.ensures a.file.now c.requires.1 l.invariant.1 in
    let j = c.in_ok-material.ensures (block_in object_header a.file.now l.at a.to) l.invariant.0.blocks (is_texture a.file.now l.at a.to b.id b.len c.requires.1 t c.if-id-ne-T_TEXTURE.false) in
    j.3

pub overflow_add-textures : goal.overflow_add-textures
overflow_add-textures c =
    let l = c.loop-at in
    omega (arith, c.requires.1, l.invariant.0.passed)

pub overflow_add-at : goal.overflow_add-at
overflow_add-at c =
    let a = c.args in
    let l = c.loop-at in
    let b = c.in-Some.field-0 in
    let t : Tells object_header a.file.now l.at a.to b.id b.len = c.in-Some.ensures a.file.now c.requires.1 l.invariant.1 in
    let j = c.in_ok-material.ensures (block_in object_header a.file.now l.at a.to) l.invariant.0.blocks (is_texture a.file.now l.at a.to b.id b.len c.requires.1 t c.if-id-ne-T_TEXTURE.false) in
    omega (arith, room a.file.now l.at a.to b.id b.len t j.1, c.requires.1)

pub object_head-head-requires-in-loop-at : goal.object_head-head-requires-in-loop-at
object_head-head-requires-in-loop-at c =
    let a = c.args in
    let l = c.loop-at in
    let b = c.in-Some.field-0 in
    let t : Tells object_header a.file.now l.at a.to b.id b.len = c.in-Some.ensures a.file.now c.requires.1 l.invariant.1 in
    let j = c.in_ok-material.ensures (block_in object_header a.file.now l.at a.to) l.invariant.0.blocks (is_texture a.file.now l.at a.to b.id b.len c.requires.1 t c.if-id-ne-T_TEXTURE.false) in
    (room a.file.now l.at a.to b.id b.len t j.1, c.requires.1)

pub loop-at-smaller : goal.loop-at-smaller
loop-at-smaller c =
    let a = c.args in
    let l = c.loop-at in
    let b = c.in-Some.field-0 in
    let t : Tells object_header a.file.now l.at a.to b.id b.len = c.in-Some.ensures a.file.now c.requires.1 l.invariant.1 in
    let j = c.in_ok-material.ensures (block_in object_header a.file.now l.at a.to) l.invariant.0.blocks (is_texture a.file.now l.at a.to b.id b.len c.requires.1 t c.if-id-ne-T_TEXTURE.false) in
    omega (arith, room a.file.now l.at a.to b.id b.len t j.1)

pub loop-at-preserved : goal.loop-at-preserved
loop-at-preserved c =
    let a = c.args in
    let l = c.loop-at in
    let b = c.in-Some.field-0 in
    let t : Tells object_header a.file.now l.at a.to b.id b.len = c.in-Some.ensures a.file.now c.requires.1 l.invariant.1 in
    let j = c.in_ok-material.ensures (block_in object_header a.file.now l.at a.to) l.invariant.0.blocks (is_texture a.file.now l.at a.to b.id b.len c.requires.1 t c.if-id-ne-T_TEXTURE.false) in
    let g = c.in_ok-material in (
      textured a.file.now (last_of a.below) a.chunk a.from a.to a.row a.notes.now l.invariant.0 c.requires.1 (omega arith) b.id b.len t c.if-id-eq-T_END.false c.if-id-eq-T_OBJECT.false
          c.with_one-held.result c.with_one-held.ensures c.if-id-ne-T_TEXTURE.false g.material j c.note.auto.notes c.requires.3 c.note.ensures,
      c.object_head-head-in-loop-at.ensures,
    )

pub shape_of-notes : goal.shape_of-notes
shape_of-notes c = c.loop-at.invariant.0.same-long

pub returns : goal.returns
returns c = λ begun.
    let a = c.args in
    let l = c.loop-at in
    let w = l.invariant.0.within in
    l.invariant.0.goes begun ∙ open_at_end a.file.now (last_of a.below) a.chunk a.to c.requires.1 begun l.invariant.0.blocks l.at (omega arith)
