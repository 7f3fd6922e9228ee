-- Each test answers one condition of a header.
use native.Mathlib.Omega.{arith}
use Rattle.studio_head.proofs.Opens.{header-stray, header-short, header-overrun, header_fine}
use Rattle.studio_head.proofs.read_header.Goals as goal

pub returns-then-end-at-lt6 : goal.returns-then-end-at-lt6
returns-then-end-at-lt6 c = record { is = header-stray c.args.file.now c.args.at c.args.end c.requires.0 c.requires.1 (omega arith); within = tt }

pub returns-then-len-lt6 : goal.returns-then-len-lt6
returns-then-len-lt6 c =
    let x = c in record { is = header-short x.args.file.now x.args.at x.args.end x.requires.0 x.requires.1 (omega arith) c.long_at-len.result c.long_at-len.ensures.is (omega arith); within = tt }

pub returns-then-end-at : goal.returns-then-end-at
returns-then-end-at c =
    let x = c in record { is = header-overrun x.args.file.now x.args.at x.args.end x.requires.0 x.requires.1 (omega arith) c.long_at-len.result c.long_at-len.ensures.is (omega arith) (omega arith); within = tt }

pub returns : goal.returns
returns c =
    let x = c in record { is = header_fine x.args.file.now x.args.at x.args.end x.requires.0 x.requires.1 (omega arith) c.long_at-len.result c.long_at-len.ensures.is (omega arith) (omega arith) c.word_at.result c.word_at.ensures.is; within = omega (arith, c.word_at.ensures.small) }
