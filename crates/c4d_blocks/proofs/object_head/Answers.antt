-- The four bytes, where there are so many.
use mathlib.Core.Path.{sym, ap, ◌∙◌}
use Prim.Native.Nat.{ℕ, ◌+◌, ◌/◌, ◌%◌, ◌≤◌}
use native.Mathlib.Omega.{arith}
use Rattle.c4d_rules.specs.Blocks.{object_header}
use Rattle.c4d_blocks.proofs.Headers.{first_byte, other_bytes, id-at, told_at}
use Rattle.c4d_blocks.proofs.object_head.Goals as goal

pub returns : goal.returns
returns c =
    let a = c.args in
    let p = c.requires in
    let b = c.type_inv.file in
    let l = c.long_at in
    let w : a.at + 4 ≤ a.to = omega arith in
    let i = ap (λ (x : ℕ). x / 16777216) l.ensures.is ∙ first_byte a.file.now a.at (omega arith) (λ i. omega (arith, b i)) in
    let q = ap (λ (x : ℕ). x % 16777216) l.ensures.is ∙ other_bytes a.file.now a.at (omega arith) (λ i. omega (arith, b i)) in
    record {
      absent = λ k. absurd (omega arith);
      small = λ k. l.ensures.small;
      id-is = λ k. i ∙ sym (id-at object_header a.file.now a.at a.to p.1 w);
      told_is = λ k. q ∙ sym (told_at object_header a.file.now a.at a.to p.1 w);
    }
