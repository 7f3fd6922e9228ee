-- The name, then the count word behind it, then the size that both give.
use native.Mathlib.Omega.{arith}
use mathlib.Core.List.{[]}
use lib.Seq.{slice, length-slice}
use Rattle.std.proofs.lemmas.Result.{err_from_is_err_and}
use Rattle.studio_rules.specs.Table.{named_words}
use Rattle.studio_own_size.proofs.Sizes.{name_fine, name-of_words, words_short, words_is}
use Rattle.studio_own_size.proofs.named_words_size.Goals as goal

pub overflow_add-size : goal.overflow_add-size
overflow_add-size c =
    let a = c.args in
    omega (arith, c.in_ok-size.ensures.1.within, length-slice a.at a.stop a.file.now (omega arith))

pub returns-in_err-size : goal.returns-in_err-size
returns-in_err-size c =
    let a = c.args in
    let p = err_from_is_err_and c.from_residual.result c.from_residual.ensures.1 in
    rw (p.1, p.2) (name-of_words (slice a.at a.stop a.file.now) _ c.in_err-size.ensures)

pub returns-then-room-size : goal.returns-then-room-size
returns-then-room-size c =
    let a = c.args in
    let f = c.in_ok-size.ensures in
    (f.0, words_short a.file.now a.at a.stop (omega arith) (omega arith) _ f.1.is (omega (arith, f.1.within, length-slice a.at a.stop a.file.now (omega arith))) (omega arith))

pub returns : goal.returns
returns c =
    let a = c.args in
    let body = slice a.at a.stop a.file.now in
    let f = c.in_ok-size.ensures in
    let l = length-slice a.at a.stop a.file.now (omega arith) in
    name_fine named_words [] body f.0 c.fitting.result
    (words_is a.file.now a.at a.stop (omega arith) (omega arith) _ f.1.is (omega (arith, f.1.within, l)) c.word_at.result (omega arith) c.word_at.ensures.is
    c.fitting.result c.fitting.ensures)
