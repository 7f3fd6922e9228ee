-- The last word of a B010; any other chunk tells no father.
use native.Mathlib.Omega.{arith}
use lib.Seq.{slice}
use Rattle.studio_own_data.proofs.Numbers.{father-room, father-root, father-below, other_father}
use Rattle.studio_own_data.proofs.father_earlier.Goals as goal

pub overflow_sub-stop : goal.overflow_sub-stop
overflow_sub-stop c =
    let x = c in
    omega (arith, father-room x.args.file.now x.args.at x.args.stop x.requires.0 x.requires.1 x.args.id x.requires.2 c.if-id-eq45072.true)

pub word_at-father-requires : goal.word_at-father-requires
word_at-father-requires c =
    let x = c in
    omega (arith, father-room x.args.file.now x.args.at x.args.stop x.requires.0 x.requires.1 x.args.id x.requires.2 c.if-id-eq45072.true)

pub returns-then-father-eq65535 : goal.returns-then-father-eq65535
returns-then-father-eq65535 c = λ p u h.
    let x = c in
    father-root x.args.file.now x.args.at x.args.stop x.requires.0 x.requires.1 x.args.id x.requires.2 c.if-id-eq45072.true p c.word_at-father.result c.word_at-father.ensures.is c.if-father-eq65535.true

pub returns-then-id-eq45072 : goal.returns-then-id-eq45072
returns-then-id-eq45072 c = λ p u h.
    let x = c in
    father-below x.args.file.now x.args.at x.args.stop x.requires.0 x.requires.1 x.args.id x.requires.2 c.if-id-eq45072.true p c.word_at-father.result c.word_at-father.ensures.is
    x.args.order u h c.if-father-eq65535.false c.word_at-father.ensures.small

pub returns : goal.returns
returns c = λ p u h.
    let a = c.args in
    other_father a.id c.if-id-eq45072.false p (slice a.at a.stop a.file.now)
