use mathlib.Core.Path.{◌≡◌, refl, sym, ◌∙◌}
use Prim.Native.Nat.{◌-◌}
use native.Mathlib.Omega.{arith}
use lib.ListN.{length}
use Rattle.studio_rescue_around.proofs.Ahead.{stray, short, overrun, found, passes}
use Rattle.studio_rescue_around.proofs.scene_at.Goals as goal

pub loop-at-init : goal.loop-at-init
loop-at-init c = (c.requires, refl)

pub returns-then-left-lt6 : goal.returns-then-left-lt6
returns-then-left-lt6 c =
    let x = c.args in
    let l = c.loop-at in
    stray x.file.now l.at l.invariant.0 (omega arith) ∙ sym l.invariant.1

pub returns-then-len-lt6 : goal.returns-then-len-lt6
returns-then-len-lt6 c =
    let x = c.args in
    let l = c.loop-at in
    let w = c.long_at-len in
    short x.file.now l.at l.invariant.0 (omega arith) w.result w.ensures.is (omega arith) ∙ sym l.invariant.1

pub returns-then-left-len : goal.returns-then-left-len
returns-then-left-len c =
    let x = c.args in
    let l = c.loop-at in
    let w = c.long_at-len in
    overrun x.file.now l.at l.invariant.0 (omega arith) w.result w.ensures.is (omega arith) (omega arith) ∙ sym l.invariant.1

pub returns-then-word_at-eq15677 : goal.returns-then-word_at-eq15677
returns-then-word_at-eq15677 c =
    let x = c.args in
    let l = c.loop-at in
    let w = c.long_at-len in
    let i = c.word_at in
    found x.file.now l.at l.invariant.0 (omega arith) w.result w.ensures.is (omega arith) (omega arith) (sym i.ensures.is ∙ c.if-word_at-eq15677.true) ∙ sym l.invariant.1

pub loop-at-preserved : goal.loop-at-preserved
loop-at-preserved c =
    let x = c.args in
    let l = c.loop-at in
    let w = c.long_at-len in
    let i = c.word_at in
    (omega arith, l.invariant.1 ∙ passes x.file.now l.at l.invariant.0 (omega arith) w.result w.ensures.is (omega arith) (omega arith) (λ e. c.if-word_at-eq15677.false (i.ensures.is ∙ e)))

pub returns : goal.returns
returns c =
    let x = c.args in
    let l = c.loop-at in
    let e : length x.file.now ≡ l.at = omega (arith, l.invariant.0) in
    sym e ∙ stray x.file.now l.at l.invariant.0 (omega arith) ∙ sym l.invariant.1
