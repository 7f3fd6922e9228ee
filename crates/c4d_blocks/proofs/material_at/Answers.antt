-- The two parts of the header, and what is left behind it.
use mathlib.Core.Path.{sym, ap, ◌∙◌}
use Prim.Native.Nat.{ℕ, ◌+◌, ◌/◌, ◌%◌, ◌≤◌}
use native.Mathlib.Omega.{arith}
use Rattle.c4d_rules.specs.Blocks.{material_header}
use Rattle.c4d_blocks.proofs.Headers.{first_word, second_word, cut_head, id-at, told_at, cut-body, is_whole}
use Rattle.c4d_blocks.proofs.material_at.Goals as goal

pub returns-then-left-lt4 : goal.returns-then-left-lt4
returns-then-left-lt4 c =
    let a = c.args in
    let p = c.requires in
    cut_head material_header a.file.now a.at a.to p.1 p.0 (omega arith)

pub returns-then-left-len : goal.returns-then-left-len
returns-then-left-len c =
    let a = c.args in
    let p = c.requires in
    let b = c.type_inv.file in
    let l = c.long_at-head in
    let w : a.at + 4 ≤ a.to = omega arith in
    let q = ap (λ (x : ℕ). x % 65536) l.ensures.is ∙ second_word a.file.now a.at (omega arith) (λ i. omega (arith, b i)) in
    cut-body material_header a.file.now a.at a.to p.1 w (l.result % 65536)
    (q ∙ sym (told_at material_header a.file.now a.at a.to p.1 w)) (omega arith)

pub returns : goal.returns
returns c =
    let a = c.args in
    let p = c.requires in
    let b = c.type_inv.file in
    let l = c.long_at-head in
    let w : a.at + 4 ≤ a.to = omega arith in
    let i = ap (λ (x : ℕ). x / 65536) l.ensures.is ∙ first_word a.file.now a.at (omega arith) (λ i. omega (arith, b i)) in
    let q = ap (λ (x : ℕ). x % 65536) l.ensures.is ∙ second_word a.file.now a.at (omega arith) (λ i. omega (arith, b i)) in
    is_whole material_header a.file.now a.at a.to p.1 w (l.result % 65536)
    (q ∙ sym (told_at material_header a.file.now a.at a.to p.1 w))
    (l.result / 65536) (i ∙ sym (id-at material_header a.file.now a.at a.to p.1 w)) (omega arith)
