use mathlib.Core.Path.{sym, ◌∙◌, subst}
use mathlib.Core.Option.{none}
use Prim.Native.Nat.{◌+◌}
use native.Mathlib.Omega.{arith}
use Rattle.shared_words.specs.declared.Refusal.TheVariants.{Overrun}
use Rattle.c4d_rules.specs.Blocks.{object_header}
use Rattle.c4d_blocks.specs.Headers.{block_in, Tells, Sees}
use Rattle.c4d_blocks.proofs.Headers.{head_there}
use Rattle.std.proofs.lemmas.Result.{err_from_is_err_and}
use Rattle.c4d_held.specs.Held.{last_of}
use Rattle.c4d_object.specs.One.{Whole}
use Rattle.c4d_object.proofs.Ahead.{cut}
use Rattle.c4d_objects.proofs.Walking.{walking_none, with_refusal, at_its_end, fault-there, outside, skipped, inside, another}
use Rattle.c4d_objects.proofs.objects.Goals as goal

pub object_head-head-requires : goal.object_head-head-requires
object_head-head-requires c = let p = c.requires in (p.0, p.1)

pub loop-at-init : goal.loop-at-init
loop-at-init c =
    let a = c.args in
    (walking_none a.file.now (last_of a.below) a.chunk a.to a.notes.now c.requires.0, c.object_head-head.ensures)

pub object_at-requires : goal.object_at-requires
object_at-requires c = let i = c.loop-at.invariant in (i.0.within, head_there i.1)

pub shape_of-notes-in_default : goal.shape_of-notes-in_default
shape_of-notes-in_default c = c.loop-at.invariant.0.same-long

pub returns-in_default : goal.returns-in_default
returns-in_default c =
    let a = c.args in
    let k = c.requires.1 in
    let l = c.loop-at in
    let e = subst (Sees object_header a.file.now l.at a.to) c.in_default.is (c.object_at.ensures a.file.now k l.invariant.1) in
    let z = fault-there a.file.now (last_of a.below) a.chunk a.to a.notes.now l.invariant.0 k (Overrun l.at)
    (cut a.file.now (last_of a.below) a.chunk a.to k l.invariant.0.begun none l.at (omega arith) e) in
    let both = with_refusal a.file.now (last_of a.below) a.chunk a.to a.notes.now l.notes (Overrun l.at) z in
    record { is = both.0; noted = both.1 }

pub overflow_add-next : goal.overflow_add-next
overflow_add-next c =
    let a = c.args in
    let l = c.loop-at in
    let b = c.in-Some.field-0 in
    let t : Tells object_header a.file.now l.at a.to b.id b.len = c.in-Some.ensures a.file.now c.requires.1 l.invariant.1 in
    omega (arith, t.fits, c.requires.1)

pub overflow_add-next-in-loop-at : goal.overflow_add-next-in-loop-at
overflow_add-next-in-loop-at c =
    let a = c.args in
    let l = c.loop-at in
    let b = c.in-Some.field-0 in
    let t : Tells object_header a.file.now l.at a.to b.id b.len = c.in-Some.ensures a.file.now c.requires.1 l.invariant.1 in
    omega (arith, t.fits, c.requires.1)

pub judge_outside-requires : goal.judge_outside-requires
judge_outside-requires c = c.if-id-ne-T_OBJECT.true

pub shape_of-notes-in_err-judge_outside : goal.shape_of-notes-in_err-judge_outside
shape_of-notes-in_err-judge_outside c =
    let l = c.loop-at in
    l.invariant.0.same-long

pub returns-in_err-judge_outside : goal.returns-in_err-judge_outside
returns-in_err-judge_outside c =
    let a = c.args in
    let l = c.loop-at in
    let b = c.in-Some.field-0 in
    let t : Tells object_header a.file.now l.at a.to b.id b.len = c.in-Some.ensures a.file.now c.requires.1 l.invariant.1 in
    let j = c.in_err-judge_outside.ensures (block_in object_header a.file.now l.at a.to) (last_of a.below) (sym t.id-is) (sym t.len_is) in
    let r = c.in_err-judge_outside.field-0.0 in
    let z = outside a.file.now (last_of a.below) a.chunk a.to a.notes.now l.invariant.0 c.requires.1 (omega arith) b.id b.len t r j in
    let both = with_refusal a.file.now (last_of a.below) a.chunk a.to a.notes.now l.notes r z in
    let p = err_from_is_err_and c.from_residual.result c.from_residual.ensures.1 in
    rw (p.1, p.2) record { is = both.0; noted = both.1 }

pub object_head-head-requires-then-id-ne-T_OBJECT : goal.object_head-head-requires-then-id-ne-T_OBJECT
object_head-head-requires-then-id-ne-T_OBJECT c =
    let a = c.args in
    let l = c.loop-at in
    let b = c.in-Some.field-0 in
    let t : Tells object_header a.file.now l.at a.to b.id b.len = c.in-Some.ensures a.file.now c.requires.1 l.invariant.1 in
    (t.fits, c.requires.1)

pub loop-at-smaller-then-id-ne-T_OBJECT : goal.loop-at-smaller-then-id-ne-T_OBJECT
loop-at-smaller-then-id-ne-T_OBJECT c =
    let a = c.args in
    let l = c.loop-at in
    let b = c.in-Some.field-0 in
    let t : Tells object_header a.file.now l.at a.to b.id b.len = c.in-Some.ensures a.file.now c.requires.1 l.invariant.1 in
    omega (arith, t.fits)

pub loop-at-preserved-then-id-ne-T_OBJECT : goal.loop-at-preserved-then-id-ne-T_OBJECT
loop-at-preserved-then-id-ne-T_OBJECT c =
    let a = c.args in
    let l = c.loop-at in
    let b = c.in-Some.field-0 in
    let t : Tells object_header a.file.now l.at a.to b.id b.len = c.in-Some.ensures a.file.now c.requires.1 l.invariant.1 in
    let x = block_in object_header a.file.now l.at a.to in
    let j = c.in_ok-judge_outside.ensures x (last_of a.below) (sym t.id-is) (sym t.len_is) in (
      skipped a.file.now (last_of a.below) a.chunk a.to a.notes.now l.invariant.0 c.requires.1 (omega arith) b.id b.len t c.if-id-ne-T_OBJECT.true j,
      c.object_head-head-then-id-ne-T_OBJECT.ensures,
    )

pub object-requires : goal.object-requires
object-requires c =
    let a = c.args in
    let l = c.loop-at in
    let b = c.in-Some.field-0 in
    let t : Tells object_header a.file.now l.at a.to b.id b.len = c.in-Some.ensures a.file.now c.requires.1 l.invariant.1 in
    let s = l.invariant.0.short in
    (t.fits, c.requires.1, c.requires.3, omega arith)

pub shape_of-notes-in_err-one : goal.shape_of-notes-in_err-one
shape_of-notes-in_err-one c =
    let l = c.loop-at in
    c.object.auto.notes ∙ l.invariant.0.same-long

pub returns-in_err-one : goal.returns-in_err-one
returns-in_err-one c =
    let a = c.args in
    let l = c.loop-at in
    let b = c.in-Some.field-0 in
    let t : Tells object_header a.file.now l.at a.to b.id b.len = c.in-Some.ensures a.file.now c.requires.1 l.invariant.1 in
    let r = c.in_err-one.field-0.0 in
    let z = inside a.file.now (last_of a.below) a.chunk a.to a.notes.now l.invariant.0 c.requires.1 (omega arith) b.id b.len t c.if-id-ne-T_OBJECT.false r c.in_err-one.ensures in
    let both = with_refusal a.file.now (last_of a.below) a.chunk a.to a.notes.now c.object.new.notes r z in
    let p = err_from_is_err_and c.from_residual-in_err-one.result c.from_residual-in_err-one.ensures.1 in
    rw (p.1, p.2) record { is = both.0; noted = both.1 }

pub note_object-row-requires : goal.note_object-row-requires
note_object-row-requires c =
    let a = c.args in
    let l = c.loop-at in
    let b = c.in-Some.field-0 in
    let w : Whole a.file.now (last_of a.below) a.chunk (l.at + (4 + b.len)) a.to l.row l.notes c.object.new.notes c.in_ok-one.one.end c.in_ok-one.one.number c.in_ok-one.one.textures = c.in_ok-one.ensures in
    let s = l.invariant.0.short in
    let n = w.long in
    let i = w.within in
    let k = c.requires.2 in
    (omega arith, w.number_small, omega arith, omega arith)

pub overflow_add-textures : goal.overflow_add-textures
overflow_add-textures c =
    let a = c.args in
    let l = c.loop-at in
    let b = c.in-Some.field-0 in
    let w : Whole a.file.now (last_of a.below) a.chunk (l.at + (4 + b.len)) a.to l.row l.notes c.object.new.notes c.in_ok-one.one.end c.in_ok-one.one.number c.in_ok-one.one.textures = c.in_ok-one.ensures in
    let n = w.long in
    let i = w.within in
    omega (arith, l.invariant.0.few-textures, c.requires.1)

pub overflow_add-count : goal.overflow_add-count
overflow_add-count c =
    let l = c.loop-at in
    omega (arith, l.invariant.0.few-objects, c.requires.1)

pub object_head-head-requires-in-loop-at : goal.object_head-head-requires-in-loop-at
object_head-head-requires-in-loop-at c =
    let a = c.args in
    let l = c.loop-at in
    let b = c.in-Some.field-0 in
    let w : Whole a.file.now (last_of a.below) a.chunk (l.at + (4 + b.len)) a.to l.row l.notes c.object.new.notes c.in_ok-one.one.end c.in_ok-one.one.number c.in_ok-one.one.textures = c.in_ok-one.ensures in
    (w.within, c.requires.1)

pub loop-at-smaller : goal.loop-at-smaller
loop-at-smaller c =
    let a = c.args in
    let l = c.loop-at in
    let b = c.in-Some.field-0 in
    let w : Whole a.file.now (last_of a.below) a.chunk (l.at + (4 + b.len)) a.to l.row l.notes c.object.new.notes c.in_ok-one.one.end c.in_ok-one.one.number c.in_ok-one.one.textures = c.in_ok-one.ensures in
    let n = w.long in
    omega (arith, w.within)

pub loop-at-preserved : goal.loop-at-preserved
loop-at-preserved c =
    let a = c.args in
    let l = c.loop-at in
    let b = c.in-Some.field-0 in
    let t : Tells object_header a.file.now l.at a.to b.id b.len = c.in-Some.ensures a.file.now c.requires.1 l.invariant.1 in
    let w : Whole a.file.now (last_of a.below) a.chunk (l.at + (4 + b.len)) a.to l.row l.notes c.object.new.notes c.in_ok-one.one.end c.in_ok-one.one.number c.in_ok-one.one.textures = c.in_ok-one.ensures in
    let g = c.in_ok-one.one in
    let p = c.note_object-row in
    let o = c.if-id-ne-T_OBJECT.false in (
      rw p.ensures.is (another a.file.now (last_of a.below) a.chunk a.to a.notes.now l.invariant.0 c.requires.1 (omega arith) b.id b.len t o
          g.end g.number g.textures w
          c.object.auto.notes p.new.notes c.note_object-row.auto.notes p.ensures.noted),
      c.object_head-head-in-loop-at.ensures,
    )

pub shape_of-notes : goal.shape_of-notes
shape_of-notes c = c.loop-at.invariant.0.same-long

pub returns : goal.returns
returns c =
    let a = c.args in
    let l = c.loop-at in
    let t = l.invariant.0.within in let both = at_its_end a.file.now (last_of a.below) a.chunk a.to a.notes.now l.invariant.0 c.requires.1 (omega arith) in record { is = both.0; noted = both.1 }
