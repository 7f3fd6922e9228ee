-- The two numbers of the header, and what is left behind it.
use mathlib.Core.Path.{sym, ◌∙◌}
use Prim.Native.Nat.{◌+◌, ◌≤◌}
use native.Mathlib.Omega.{arith}
use Rattle.c4d_rules.specs.Blocks.{chunk_header}
use Rattle.c4d_blocks.proofs.Headers.{cut_head, id-at, told_at, cut-body, is_whole}
use Rattle.c4d_blocks.proofs.chunk_at.Goals as goal

pub returns-then-left-lt8 : goal.returns-then-left-lt8
returns-then-left-lt8 c =
    let a = c.args in
    let p = c.requires in
    cut_head chunk_header a.file.now a.at a.to p.1 p.0 (omega arith)

pub returns-then-left-len : goal.returns-then-left-len
returns-then-left-len c =
    let a = c.args in
    let p = c.requires in
    let l = c.long_at-len in
    let w : a.at + 8 ≤ a.to = omega arith in
    cut-body chunk_header a.file.now a.at a.to p.1 w l.result
    (l.ensures.is ∙ sym (told_at chunk_header a.file.now a.at a.to p.1 w)) (omega arith)

pub returns : goal.returns
returns c =
    let a = c.args in
    let p = c.requires in
    let l = c.long_at-len in
    let i = c.long_at in
    let w : a.at + 8 ≤ a.to = omega arith in
    is_whole chunk_header a.file.now a.at a.to p.1 w l.result
    (l.ensures.is ∙ sym (told_at chunk_header a.file.now a.at a.to p.1 w))
    i.result (i.ensures.is ∙ sym (id-at chunk_header a.file.now a.at a.to p.1 w)) (omega arith)
