use mathlib.Core.Path.{refl, sym, ◌∙◌, subst}
use native.Mathlib.Omega.{arith}
use lib.ListN.{length}
use Rattle.std.proofs.lemmas.Result.{err_from_is_err_and}
use Rattle.c4d_rules.specs.Blocks.{chunk_header}
use Rattle.c4d_blocks.specs.Headers.{Tells, Sees}
use Rattle.c4d_chunks.proofs.Entered.{other_known}
use Rattle.c4d_chunks.proofs.Loop.{before, given, on-start, on-cut, on-refused, on-more, on-end}
use Rattle.c4d_chunks.proofs.chunks.Goals as goal

pub loop-at-init : goal.loop-at-init
loop-at-init c = on-start c.args.file.now c.args.notes.now c.requires.0

pub chunk_at-requires : goal.chunk_at-requires
chunk_at-requires c = (omega arith, omega arith)

pub shape_of-notes-in_default : goal.shape_of-notes-in_default
shape_of-notes-in_default c = c.loop-at.invariant.same-long

pub returns-in_default : goal.returns-in_default
returns-in_default c =
    let a = c.args in
    let s = a.file.now in
    let l = c.loop-at in
    let e = subst (Sees chunk_header s l.at (length s)) c.in_default.is c.chunk_at.ensures in
    on-cut s a.notes.now l.at l.state l.invariant (omega arith) e

pub overflow_add-end : goal.overflow_add-end
overflow_add-end c =
    let a = c.args in
    let l = c.loop-at in
    let b = c.in-Some.field-0 in
    let t : Tells chunk_header a.file.now l.at (length a.file.now) b.id b.len = c.in-Some.ensures in
    omega (arith, t.fits)

pub overflow_add-end-in-loop-at : goal.overflow_add-end-in-loop-at
overflow_add-end-in-loop-at c =
    let a = c.args in
    let l = c.loop-at in
    let b = c.in-Some.field-0 in
    let t : Tells chunk_header a.file.now l.at (length a.file.now) b.id b.len = c.in-Some.ensures in
    omega (arith, t.fits)

pub loop-at-smaller-in_default-kind_of_id : goal.loop-at-smaller-in_default-kind_of_id
loop-at-smaller-in_default-kind_of_id c =
    let a = c.args in
    let l = c.loop-at in
    let b = c.in-Some.field-0 in
    let t : Tells chunk_header a.file.now l.at (length a.file.now) b.id b.len = c.in-Some.ensures in
    omega (arith, t.fits)

pub loop-at-preserved-in_default-kind_of_id : goal.loop-at-preserved-in_default-kind_of_id
loop-at-preserved-in_default-kind_of_id c =
    let a = c.args in
    let l = c.loop-at in
    let b = c.in-Some.field-0 in
    let t : Tells chunk_header a.file.now l.at (length a.file.now) b.id b.len = c.in-Some.ensures in
    let i = l.invariant in
    let k = sym c.in_default-kind_of_id.ensures in
    on-more a.file.now a.notes.now l.at l.state i (omega arith) b.id b.len t l.state
    (other_known a.file.now l.at b.id b.len (before i.chunks) (given i.chunks) t l.state i.known k) refl

pub enter-requires : goal.enter-requires
enter-requires c =
    let a = c.args in
    let l = c.loop-at in
    let b = c.in-Some.field-0 in
    let t : Tells chunk_header a.file.now l.at (length a.file.now) b.id b.len = c.in-Some.ensures in
    let f = t.fits in
    let p = c.requires in
    (omega arith, omega arith, omega (arith, p.1), l.invariant.known.last_small)

pub shape_of-notes-in_err-state : goal.shape_of-notes-in_err-state
shape_of-notes-in_err-state c =
    let l = c.loop-at in
    c.enter.auto.notes ∙ l.invariant.same-long

pub returns-in_err-state : goal.returns-in_err-state
returns-in_err-state c =
    let a = c.args in
    let l = c.loop-at in
    let b = c.in-Some.field-0 in
    let t : Tells chunk_header a.file.now l.at (length a.file.now) b.id b.len = c.in-Some.ensures in
    let y = err_from_is_err_and c.from_residual.result c.from_residual.ensures.1 in
    rw (y.1, y.2) (on-refused a.file.now a.notes.now l.at l.state l.invariant (omega arith) b.id b.len t c.in_err-state.field-0.0
    (c.in_err-state.ensures b.id (sym c.in-Some-kind_of_id.ensures) b.len (before l.invariant.chunks) (given l.invariant.chunks) a.notes.now refl t l.invariant.any-is l.invariant.known))

pub loop-at-smaller : goal.loop-at-smaller
loop-at-smaller c =
    let a = c.args in
    let l = c.loop-at in
    let b = c.in-Some.field-0 in
    let t : Tells chunk_header a.file.now l.at (length a.file.now) b.id b.len = c.in-Some.ensures in
    omega (arith, t.fits)

pub loop-at-preserved : goal.loop-at-preserved
loop-at-preserved c =
    let a = c.args in
    let l = c.loop-at in
    let b = c.in-Some.field-0 in
    let t : Tells chunk_header a.file.now l.at (length a.file.now) b.id b.len = c.in-Some.ensures in
    let g = c.in_ok-state in
    on-more a.file.now a.notes.now l.at l.state l.invariant (omega arith) b.id b.len t g.state (g.ensures b.id (sym c.in-Some-kind_of_id.ensures) b.len (before l.invariant.chunks) (given l.invariant.chunks) a.notes.now refl t l.invariant.any-is l.invariant.known) c.enter.auto.notes

pub shape_of-notes : goal.shape_of-notes
shape_of-notes c = c.loop-at.invariant.same-long

pub returns : goal.returns
returns c =
    let a = c.args in
    let l = c.loop-at in
    rw c.unwrap_or.ensures (on-end a.file.now a.notes.now l.at l.state l.invariant (omega arith))
