-- The sixteen bytes at the start are looked at first, where there are as many.
use native.Mathlib.Omega.{arith}
use Rattle.studio_names.proofs.Fits.{sixteen_first}
use Rattle.studio_names.proofs.fit_size_16.Goals as goal

pub overflow_add-at-2 : goal.overflow_add-at-2
overflow_add-at-2 c =
    let x = c in
    let n = c.printable_front-first in
    let m = c.printable_front-second in
    let f = sixteen_first x.args.s.now x.args.at x.args.stop (omega arith) (omega arith) n.result m.result n.ensures m.ensures in
    omega (arith, f.0)

pub overflow_mul-first : goal.overflow_mul-first
overflow_mul-first c =
    let x = c in
    let n = c.printable_front-first in
    let m = c.printable_front-second in
    let f = sixteen_first x.args.s.now x.args.at x.args.stop (omega arith) (omega arith) n.result m.result n.ensures m.ensures in
    omega (arith, f.2)

pub overflow_add-at-3 : goal.overflow_add-at-3
overflow_add-at-3 c =
    let x = c in
    let n = c.printable_front-first in
    let m = c.printable_front-second in
    let f = sixteen_first x.args.s.now x.args.at x.args.stop (omega arith) (omega arith) n.result m.result n.ensures m.ensures in
    omega (arith, f.0, f.2)

pub fit_from-requires-2 : goal.fit_from-requires-2
fit_from-requires-2 c =
    let x = c in
    let n = c.printable_front-first in
    let m = c.printable_front-second in
    let f = sixteen_first x.args.s.now x.args.at x.args.stop (omega arith) (omega arith) n.result m.result n.ensures m.ensures in
    f.3
