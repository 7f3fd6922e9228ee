use mathlib.Core.Path.{refl, ap, ◌∙◌}
use mathlib.Core.List.{List}
use Prim.Native.Nat.{ℕ}
use native.Mathlib.Omega.{arith}
use lib.Seq.{take_all}
use Rattle.shared_words.specs.Bytes.{packed}
use Rattle.shared_words.specs.Effects.{filled}
use Rattle.shared_words.proofs.Bytes.{packed_more}
use Rattle.shared_numbers.proofs.Put.{put-none, put_then, put_front}
use Rattle.c_answers.proofs.put_numbers.Goals as goal

pub loop-number-init : goal.loop-number-init
loop-number-init c = (refl, omega arith, put-none _ _)

pub loop-number-preserved : goal.loop-number-preserved
loop-number-preserved c =
    let a = c.args in
    let l = c.loop-number in
    let put = c.put_long-next in
    (omega arith, omega (arith, put.ensures.ends), rw (packed_more 4 a.numbers.now l.number-index 0 (omega arith)) (put_then (omega arith) l.invariant.2 put.ensures))

pub shape_of-out : goal.shape_of-out
shape_of-out c = c.loop-number.invariant.0

pub returns : goal.returns
returns c =
    let a = c.args in
    let l = c.loop-number in
    put_front l.invariant.2 ∙ ap (λ (x : List ℕ). filled (packed 4 x) a.out.now) (take_all l.number-index a.numbers.now (omega arith))
