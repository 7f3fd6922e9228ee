-- The words of a 4130; any other chunk has none.
use mathlib.Core.Path.{◌∙◌}
use native.Mathlib.Omega.{arith}
use lib.Seq.{slice}
use Rattle.studio_own_data.proofs.Numbers.{words_room, words_fill, words_below, other_below}
use Rattle.studio_own_data.proofs.face_numbers_below.Goals as goal

pub overflow_add-at : goal.overflow_add-at
overflow_add-at c = let x = c in
    let l = words_room x.args.file.now x.args.at x.args.stop x.requires.0 x.requires.1 x.args.id x.requires.2 c.if-id-eq16688.true c.name_size-size.result c.name_size-size.ensures in
    omega arith

pub word_at-n-requires : goal.word_at-n-requires
word_at-n-requires c = let x = c in
    let l = words_room x.args.file.now x.args.at x.args.stop x.requires.0 x.requires.1 x.args.id x.requires.2 c.if-id-eq16688.true c.name_size-size.result c.name_size-size.ensures in
    omega arith

pub overflow_add-at-then-id-eq16688 : goal.overflow_add-at-then-id-eq16688
overflow_add-at-then-id-eq16688 c = let x = c in
    let l = words_room x.args.file.now x.args.at x.args.stop x.requires.0 x.requires.1 x.args.id x.requires.2 c.if-id-eq16688.true c.name_size-size.result c.name_size-size.ensures in
    omega arith

pub overflow_add-at-then-id-eq16688-2 : goal.overflow_add-at-then-id-eq16688-2
overflow_add-at-then-id-eq16688-2 c = let x = c in
    let l = words_room x.args.file.now x.args.at x.args.stop x.requires.0 x.requires.1 x.args.id x.requires.2 c.if-id-eq16688.true c.name_size-size.result c.name_size-size.ensures in
    omega arith

pub words_below-requires : goal.words_below-requires
words_below-requires c = let x = c in
    let f = words_fill x.args.file.now x.args.at x.args.stop x.requires.0 x.requires.1 x.args.id x.requires.2 c.if-id-eq16688.true c.name_size-size.result c.name_size-size.ensures c.word_at-n.result c.word_at-n.ensures.is in
    omega arith

pub returns-then-id-eq16688 : goal.returns-then-id-eq16688
returns-then-id-eq16688 c = λ p u h.
    let x = c in
    c.words_below.ensures ∙
    words_below x.args.file.now x.args.at x.args.stop x.requires.0 x.requires.1 x.args.id x.requires.2
    c.if-id-eq16688.true c.name_size-size.result c.name_size-size.ensures p x.args.f c.word_at-n.result u h c.word_at-n.ensures.is

pub returns : goal.returns
returns c = λ p u h.
    let a = c.args in
    other_below a.id c.if-id-eq16688.false p (slice a.at a.stop a.file.now)
