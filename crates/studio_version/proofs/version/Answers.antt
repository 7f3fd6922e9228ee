use mathlib.Core.Path.{◌≡◌, refl, sym, ◌∙◌}
use Prim.Native.Nat.{◌-◌}
use native.Mathlib.Omega.{arith}
use Rattle.shared_numbers.specs.Numbers.{word_at}
use Rattle.studio_version.proofs.Told.{stray, nothing, short, overrun, tells, passes}
use Rattle.studio_version.proofs.version.Goals as goal
use Rattle.studio_version.proofs.version.Goals.{else-len-eq10-via-then-len-eq10+else-word_at-eq2, else-len-eq10-via-else-len-eq10}

pub loop-at-init : goal.loop-at-init
loop-at-init c = (omega arith, refl)

pub returns-then-left-lt6 : goal.returns-then-left-lt6
returns-then-left-lt6 c =
    let x = c.args in
    let l = c.loop-at in
    stray x.file.now l.at (omega arith) ∙ sym l.invariant.1

pub returns-then-len-lt6 : goal.returns-then-len-lt6
returns-then-len-lt6 c =
    let x = c.args in
    let l = c.loop-at in
    let w = c.long_at-len in
    short x.file.now l.at (omega arith) w.result w.ensures.is (omega arith) ∙ sym l.invariant.1

pub returns-then-left-len : goal.returns-then-left-len
returns-then-left-len c =
    let x = c.args in
    let l = c.loop-at in
    let w = c.long_at-len in
    overrun x.file.now l.at (omega arith) w.result w.ensures.is (omega arith) (omega arith) ∙ sym l.invariant.1

pub returns-then-word_at-eq2 : goal.returns-then-word_at-eq2
returns-then-word_at-eq2 c =
    let x = c.args in
    let l = c.loop-at in
    let w = c.long_at-len in
    let i = c.word_at in
    c.long_at.ensures.is ∙
    tells x.file.now l.at (omega arith) w.result w.ensures.is (omega arith) (omega arith) (omega arith) (sym i.ensures.is ∙ c.if-word_at-eq2.true) ∙ sym l.invariant.1

pub loop-at-preserved : goal.loop-at-preserved
loop-at-preserved c =
    let x = c.args in
    let l = c.loop-at in
    let w = c.long_at-len in
    let other : w.result ≡ 10 → word_at x.file.now l.at ≡ 0x0002 → ⊥ = λ n i. elim c.else-len-eq10.branch [
      | else-len-eq10-via-then-len-eq10+else-word_at-eq2 y ↦ y.if-word_at-eq2.false (y.word_at.ensures.is ∙ i)
      | else-len-eq10-via-else-len-eq10 y ↦ y.if-len-eq10.false n
    ] in
    (omega arith, l.invariant.1 ∙ passes x.file.now l.at (omega arith) w.result w.ensures.is (omega arith) (omega arith) other)

pub returns : goal.returns
returns c =
    let x = c.args in
    nothing x.file.now c.loop-at.at (omega arith) ∙ sym c.loop-at.invariant.1
