-- A count word that is not there, or the size that it gives.
use native.Mathlib.Omega.{arith}
use Rattle.studio_own_size.proofs.Sizes.{product_small, counted_is, counted-short}
use Rattle.studio_own_size.proofs.counted_size.Goals as goal

pub returns-then-room-lt2 : goal.returns-then-room-lt2
returns-then-room-lt2 c =
    let a = c.args in
    counted-short a.file.now a.at a.stop (omega arith) (omega arith) a.each (omega arith)

pub overflow_mul-each : goal.overflow_mul-each
overflow_mul-each c = omega (arith, product_small c.args.each c.word_at.result (omega arith) c.word_at.ensures.small)

pub overflow_add-each : goal.overflow_add-each
overflow_add-each c = omega (arith, product_small c.args.each c.word_at.result (omega arith) c.word_at.ensures.small)

pub returns : goal.returns
returns c =
    let a = c.args in
    counted_is a.file.now a.at a.stop (omega arith) (omega arith) a.each c.word_at.result (omega arith) c.word_at.ensures.is c.fitting.result c.fitting.ensures
