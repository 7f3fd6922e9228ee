use mathlib.Core.Path.{◌≡◌, refl, sym, subst}
use mathlib.Core.Bool.{Bool, true, false, cond}
use mir.Val.{bool_byte}
use lib.Dec.{eqb}
use mathlib.Core.List.{List}
use Prim.Native.Nat.{ℕ}
use native.Mathlib.Omega.{arith}
use Rattle.shared_words.proofs.Bools.{bit_small}
use Rattle.c4d_rules.specs.Blocks.{material_header}
use Rattle.c4d_blocks.specs.Headers.{Tells, Sees}
use Rattle.c4d_materials.proofs.Loop.{On, on-start, on-cut, on-after, on-more, on_open, on-end}
use Rattle.c4d_materials.proofs.materials.Goals as goal

-- a test as a number
bit_is : (q : Bool) → bool_byte q ≡ cond q 1 0
bit_is true = refl
bit_is false = refl

-- what the loop keeps, where it is known whether MAT_END was met
on : (file : List ℕ) (chunk to at : ℕ) (q p : Bool) (nexts : ℕ) → q ≡ p → On file chunk to at q nexts → On file chunk to at p nexts
on file chunk to at q p nexts e h = subst (λ (q : Bool). On file chunk to at q nexts) e h

pub loop-at-init : goal.loop-at-init
loop-at-init c =
    let a = c.args in
    on-start a.file.now a.chunk a.to c.requires.0

pub material_at-requires : goal.material_at-requires
material_at-requires c = (c.loop-at.invariant.within, c.requires.1)

pub returns-in_default : goal.returns-in_default
returns-in_default c =
    let start = c in
    let a = start.args in
    let l = c.loop-at in
    let e = subst (Sees material_header a.file.now l.at a.to) c.in_default.is c.material_at.ensures in record { is = sym (on-cut a.file.now a.chunk a.to l.at start.requires.1 l.ended l.nexts l.invariant (omega arith) e); few = tt }

pub returns-then-ended : goal.returns-then-ended
returns-then-ended c =
    let a = c.args in
    let l = c.loop-at in
    let g = c.in-Some.field-0 in
    let i = on a.file.now a.chunk a.to l.at l.ended true l.nexts c.if-ended.true l.invariant in
    record { is = sym (on-after a.file.now a.chunk a.to l.at c.requires.1 l.nexts g.id g.len i (omega arith) c.in-Some.ensures); few = tt }

pub overflow_add-nexts : goal.overflow_add-nexts
overflow_add-nexts c =
    let l = c.loop-at in
    let id = c.in-Some.field-0.id in
    let e = bit_is (eqb id 65) in
    omega (arith, bit_small (eqb id 65), l.invariant.few, l.invariant.within)

pub overflow_add-at-in-loop-at : goal.overflow_add-at-in-loop-at
overflow_add-at-in-loop-at c = let t : Tells material_header c.args.file.now c.loop-at.at c.args.to c.in-Some.field-0.id c.in-Some.field-0.len = c.in-Some.ensures in omega (arith, t.fits)

pub overflow_add-at-in-loop-at-2 : goal.overflow_add-at-in-loop-at-2
overflow_add-at-in-loop-at-2 c = let t : Tells material_header c.args.file.now c.loop-at.at c.args.to c.in-Some.field-0.id c.in-Some.field-0.len = c.in-Some.ensures in omega (arith, t.fits)

pub loop-at-smaller : goal.loop-at-smaller
loop-at-smaller c = let t : Tells material_header c.args.file.now c.loop-at.at c.args.to c.in-Some.field-0.id c.in-Some.field-0.len = c.in-Some.ensures in omega (arith, t.fits)

pub loop-at-preserved : goal.loop-at-preserved
loop-at-preserved c =
    let a = c.args in
    let l = c.loop-at in
    let g = c.in-Some.field-0 in
    let i = on a.file.now a.chunk a.to l.at l.ended false l.nexts c.if-ended.false l.invariant in
    rw (bit_is (eqb g.id 65)) (on-more a.file.now a.chunk a.to l.at c.requires.1 l.nexts g.id g.len i (omega arith) c.in-Some.ensures)

pub returns-then-not-ended : goal.returns-then-not-ended
returns-then-not-ended c =
    let start = c in
    let a = start.args in
    let l = c.loop-at in
    let i = subst (λ (q : Bool). On a.file.now a.chunk a.to l.at q l.nexts) c.if-not-ended.true l.invariant in record { is = sym (on_open a.file.now a.chunk a.to l.at start.requires.1 l.nexts i (omega arith)); few = tt }

pub returns : goal.returns
returns c =
    let start = c in
    let a = start.args in
    let l = c.loop-at in
    let i = subst (λ (q : Bool). On a.file.now a.chunk a.to l.at q l.nexts) c.if-not-ended.false l.invariant in record { is = sym (on-end a.file.now a.chunk a.to l.at start.requires.1 l.nexts i (omega arith)); few = omega (arith, i.few, i.within) }
