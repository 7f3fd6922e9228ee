use mathlib.Core.Path.{◌≡◌, ap, ◌∙◌}
use native.Mathlib.Omega.{arith}
use Rattle.slip_check.specs.Entries.{entry_in}
use Rattle.stick_names.specs.Digest.{digest_of}
use Rattle.stick_judge.proofs.Digesting.{name_part, filled_none, filled-whole, filled_on, filled-all}
use Rattle.stick_judge.proofs.fill_digests.Goals as goal

pub loop-k-init : goal.loop-k-init
loop-k-init c = filled_none _ _ _ c.requires.0

pub byte_at-n-requires : goal.byte_at-n-requires
byte_at-n-requires c = let a = c.args in let l = c.loop-k in omega (arith, filled-whole a.slip.now a.entries a.digests.now l.digests l.k l.o l.invariant (omega arith))

pub bounds-digests-k : goal.bounds-digests-k
bounds-digests-k c = omega (arith, c.loop-k.invariant.long, c.requires.1)

pub loop-k-preserved : goal.loop-k-preserved
loop-k-preserved c =
    let a = c.args in
    let l = c.loop-k in
    let b = c.byte_at-n.ensures.0 in
    let e : c.digest.result ≡ digest_of (entry_in a.slip.now l.o).name = c.digest.ensures ∙ ap digest_of (name_part a.slip.now l.o c.byte_at-n.result b) in
    rw b (filled_on a.slip.now a.entries a.digests.now l.digests l.k l.o l.invariant (omega arith) c.requires.1 c.digest.result e)

pub shape_of-digests : goal.shape_of-digests
shape_of-digests c = c.loop-k.invariant.long

pub returns : goal.returns
returns c =
    let a = c.args in
    let l = c.loop-k in
    (filled-all a.slip.now a.entries a.digests.now l.digests l.k l.o l.invariant (omega arith), l.invariant.long)

pub overflow_add-o : goal.overflow_add-o
overflow_add-o c = let a = c.args in let l = c.loop-k in omega (arith, filled-whole a.slip.now a.entries a.digests.now l.digests l.k l.o l.invariant (omega arith))

pub overflow_add-o-in-loop-k : goal.overflow_add-o-in-loop-k
overflow_add-o-in-loop-k c = let a = c.args in let l = c.loop-k in omega (arith, filled-whole a.slip.now a.entries a.digests.now l.digests l.k l.o l.invariant (omega arith))

pub overflow_add-o-in-loop-k-2 : goal.overflow_add-o-in-loop-k-2
overflow_add-o-in-loop-k-2 c =
    let a = c.args in
    let l = c.loop-k in
    omega (arith, filled-whole a.slip.now a.entries a.digests.now l.digests l.k l.o l.invariant (omega arith), c.byte_at-n.ensures.0)

pub overflow_add-o-in-loop-k-4 : goal.overflow_add-o-in-loop-k-4
overflow_add-o-in-loop-k-4 c =
    let a = c.args in
    let l = c.loop-k in
    omega (arith, filled-whole a.slip.now a.entries a.digests.now l.digests l.k l.o l.invariant (omega arith), c.byte_at-n.ensures.0)
