-- The name, then the size with what stands behind it.
use native.Mathlib.Omega.{arith}
use mathlib.Core.List.{[]}
use lib.Seq.{slice, length-slice}
use Rattle.std.proofs.lemmas.Result.{err_from_is_err_and}
use Rattle.studio_rules.specs.Table.{named}
use Rattle.studio_own_size.proofs.Sizes.{name_fine, name-of-named, named-is}
use Rattle.studio_own_size.proofs.named_size.Goals as goal

pub overflow_add-size : goal.overflow_add-size
overflow_add-size c =
    let a = c.args in
    omega (arith, c.in_ok-size.ensures.1.within, length-slice a.at a.stop a.file.now (omega arith))

pub returns-in_err-size : goal.returns-in_err-size
returns-in_err-size c =
    let a = c.args in
    let p = err_from_is_err_and c.from_residual.result c.from_residual.ensures.1 in
    rw (p.1, p.2) (name-of-named a.more (slice a.at a.stop a.file.now) _ c.in_err-size.ensures)

pub returns : goal.returns
returns c =
    let a = c.args in
    let body = slice a.at a.stop a.file.now in
    let f = c.in_ok-size.ensures in
    let l = length-slice a.at a.stop a.file.now (omega arith) in
    name_fine (named a.more) [] body f.0 c.fitting.result
    (named-is a.file.now a.at a.stop (omega arith) (omega arith) _ f.1.is (omega (arith, f.1.within, l)) a.more c.fitting.result c.fitting.ensures)
