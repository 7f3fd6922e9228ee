-- Each test answers one condition of the file.
use native.Mathlib.Omega.{arith}
use mathlib.Core.List.{List}
use mathlib.Core.Path.{sym, ◌∙◌}
use Prim.Native.Nat.{ℕ}
use Rattle.studio_check.proofs.Files.{Begun, file-too_long, file-too_short, file-no-figure, file-short, file-overrun, file_trailing, file_fine}
use Rattle.studio_check.proofs.judge_file.Lts as lts
use Rattle.studio_check.proofs.judge_file.Reads as reads
use Rattle.studio_check.proofs.judge_file.Tie as tie
use Rattle.studio_check.proofs.judge_file.Goals as goal

-- what is known at a place of the code
abbrev Lts-After-long_at-len : Type 0
Lts-After-long_at-len = lts.After-long_at tie.the-claims reads.Pre reads.Post

-- the file, once the length field of its 4D4D has been read
abbrev file : Lts-After-long_at-len → List ℕ
file d = d.args.file.now

begun : (d : Lts-After-long_at-len) → Begun (file d) d.long_at-len.result
begun d = record {
  short = omega arith;
  six = omega arith;
  is = sym d.word_at.ensures.is ∙ d.if-word_at-ne19789.false;
  n-is = d.long_at-len.ensures.is;
}

pub returns-then-size-gt1048576 : goal.returns-then-size-gt1048576
returns-then-size-gt1048576 c = file-too_long c.args.file.now (omega arith)

pub returns-then-size-lt6 : goal.returns-then-size-lt6
returns-then-size-lt6 c = file-too_short c.args.file.now (omega arith) (omega arith)

pub returns-then-word_at-ne19789 : goal.returns-then-word_at-ne19789
returns-then-word_at-ne19789 c =
    let w = c.word_at in
    file-no-figure c.args.file.now (omega arith) (omega arith) w.result w.ensures.is c.if-word_at-ne19789.true

pub returns-then-len-lt6 : goal.returns-then-len-lt6
returns-then-len-lt6 c = let d = c.before.before in file-short (file d) d.long_at-len.result (begun d) (omega arith)

pub returns-then-size-len : goal.returns-then-size-len
returns-then-size-len c = let d = c.before.before.before in file-overrun (file d) d.long_at-len.result (begun d) (omega arith) (omega arith)

pub returns-then-len-size : goal.returns-then-len-size
returns-then-len-size c = let d = c.before.before.before.before in file_trailing (file d) d.long_at-len.result (begun d) (omega arith) (omega arith) (omega arith)

pub returns : goal.returns
returns c = let d = c.before.before.before.before in file_fine (file d) d.long_at-len.result (begun d) (omega arith) (omega arith) (omega arith)
