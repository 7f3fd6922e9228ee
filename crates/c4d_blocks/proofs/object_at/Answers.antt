-- The two parts of the header, and what is left behind it.
use Prim.Native.Nat.{◌+◌, ◌/◌, ◌%◌, ◌≤◌}
use native.Mathlib.Omega.{arith}
use Rattle.c4d_rules.specs.Blocks.{object_header}
use Rattle.c4d_blocks.proofs.Headers.{cut_head, cut-body, is_whole}
use Rattle.c4d_blocks.proofs.object_at.Goals as goal

pub returns-then-head-ge-NO_HEADER : goal.returns-then-head-ge-NO_HEADER
returns-then-head-ge-NO_HEADER c = λ s m h.
    let a = c.args in
    let far : a.at + 4 ≤ a.to → ⊥ = λ w. let small = h.small w in omega arith in
    cut_head object_header s a.at a.to m c.requires.0 (omega arith)

pub overflow_sub-to-2 : goal.overflow_sub-to-2
overflow_sub-to-2 c = omega (arith, c.requires.1 (omega arith))

pub returns-then-to-at : goal.returns-then-to-at
returns-then-to-at c = λ s m h.
    let a = c.args in
    let w : a.at + 4 ≤ a.to = c.requires.1 (omega arith) in
    cut-body object_header s a.at a.to m w (a.head % 16777216) (h.told_is w) (omega arith)

pub returns : goal.returns
returns c = λ s m h.
    let a = c.args in
    let w : a.at + 4 ≤ a.to = c.requires.1 (omega arith) in
    is_whole object_header s a.at a.to m w (a.head % 16777216) (h.told_is w) (a.head / 16777216) (h.id-is w) (omega arith)
