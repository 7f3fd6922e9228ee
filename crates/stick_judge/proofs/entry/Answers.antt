-- The numbers of the entry, one by one.
use mathlib.Core.Path.{refl}
use native.Mathlib.Omega.{arith}
use Rattle.stick_judge.proofs.Finding.{entry-is}
use Rattle.stick_judge.proofs.entry.Goals as goal

pub returns : goal.returns
returns c =
    let x = c in
    let f = c.byte_at-first.ensures.0 in
    let s = c.byte_at-second.ensures.0 in
    entry-is x.args.slip.now x.args.o c.byte_at-len.result x.args.number _ x.requires c.byte_at-len.ensures.0 refl c.long_at-file.ensures.is (omega (arith, f, s))
