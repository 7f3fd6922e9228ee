-- By the length of own data: no byte, one, or more.
use mathlib.Core.Path.{refl}
use native.Mathlib.Omega.{arith}
use lib.ListN.{get_or}
use Rattle.studio_own_size.proofs.Sizes.{count_none, count-one, count_word}
use Rattle.studio_own_size.proofs.count_of.Goals as goal

pub returns-then-stop-at-eq0 : goal.returns-then-stop-at-eq0
returns-then-stop-at-eq0 c =
    let a = c.args in
    count_none a.file.now a.at a.stop (omega arith) (omega arith) (omega arith)

pub overflow_cast-result : goal.overflow_cast-result
overflow_cast-result c = omega (arith, c.type_inv.file c.args.at)

pub returns-then-stop-at-eq1 : goal.returns-then-stop-at-eq1
returns-then-stop-at-eq1 c =
    let a = c.args in
    count-one a.file.now a.at a.stop (omega arith) (omega arith) (omega arith) (get_or a.file.now a.at 0) (omega (arith, c.type_inv.file a.at)) refl

pub returns : goal.returns
returns c =
    let a = c.args in
    count_word a.file.now a.at a.stop (omega arith) (omega arith) (omega arith) _ c.word_at.ensures.small c.word_at.ensures.is
