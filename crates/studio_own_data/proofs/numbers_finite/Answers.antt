-- The lists of a 4110 and of a 4140; any other chunk has none.
use mathlib.Core.Path.{◌∙◌}
use native.Mathlib.Omega.{arith}
use lib.Seq.{slice}
use Rattle.studio_own_data.proofs.Numbers.{has_word, fills, vertices-finite, pairs-finite, other_finite}
use Rattle.studio_own_data.proofs.numbers_finite.Goals as goal

pub word_at-n-requires : goal.word_at-n-requires
word_at-n-requires c = let x = c in
    let l = has_word x.args.file.now x.args.at x.args.stop x.requires.0 x.requires.1 x.args.id x.requires.2 12 (x.requires.2.vertices c.if-id-eq16656.true) in
    omega arith

pub all_finite-requires : goal.all_finite-requires
all_finite-requires c = let x = c in
    let f = fills x.args.file.now x.args.at x.args.stop x.requires.0 x.requires.1 x.args.id x.requires.2 12 (x.requires.2.vertices c.if-id-eq16656.true) c.word_at-n.result c.word_at-n.ensures.is in
    omega arith

pub returns-then-id-eq16656 : goal.returns-then-id-eq16656
returns-then-id-eq16656 c = λ p.
    let x = c in
    c.all_finite.ensures ∙
    vertices-finite x.args.file.now x.args.at x.args.stop x.requires.0 x.requires.1 x.args.id x.requires.2 c.if-id-eq16656.true p c.word_at-n.result c.word_at-n.ensures.is

pub word_at-n-requires-then-id-eq16704 : goal.word_at-n-requires-then-id-eq16704
word_at-n-requires-then-id-eq16704 c = let x = c in
    let l = has_word x.args.file.now x.args.at x.args.stop x.requires.0 x.requires.1 x.args.id x.requires.2 8 (x.requires.2.pairs c.if-id-eq16704.true) in
    omega arith

pub all_finite-requires-then-id-eq16704 : goal.all_finite-requires-then-id-eq16704
all_finite-requires-then-id-eq16704 c = let x = c in
    let f = fills x.args.file.now x.args.at x.args.stop x.requires.0 x.requires.1 x.args.id x.requires.2 8 (x.requires.2.pairs c.if-id-eq16704.true) c.word_at-n-then-id-eq16704.result c.word_at-n-then-id-eq16704.ensures.is in
    omega arith

pub returns-then-id-eq16704 : goal.returns-then-id-eq16704
returns-then-id-eq16704 c = λ p.
    let x = c in
    c.all_finite-then-id-eq16704.ensures ∙
    pairs-finite x.args.file.now x.args.at x.args.stop x.requires.0 x.requires.1 x.args.id x.requires.2 c.if-id-eq16704.true p c.word_at-n-then-id-eq16704.result c.word_at-n-then-id-eq16704.ensures.is

pub returns : goal.returns
returns c = λ p.
    let a = c.args in
    other_finite a.id c.if-id-eq16656.false c.if-id-eq16704.false p (slice a.at a.stop a.file.now)
