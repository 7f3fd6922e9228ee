-- The eight bytes at the start are looked at first, where there are as many.
use native.Mathlib.Omega.{arith}
use Rattle.studio_names.proofs.Fits.{eight-first}
use Rattle.studio_names.proofs.fit_size.Goals as goal

pub overflow_add-at : goal.overflow_add-at
overflow_add-at c =
    let x = c in
    let n = c.printable_front in
    omega (arith, (eight-first x.args.s.now x.args.at x.args.stop (omega arith) (omega arith) n.result n.ensures).0)

pub fit_from-requires-2 : goal.fit_from-requires-2
fit_from-requires-2 c =
    let x = c in
    let n = c.printable_front in
    (eight-first x.args.s.now x.args.at x.args.stop (omega arith) (omega arith) n.result n.ensures).1
