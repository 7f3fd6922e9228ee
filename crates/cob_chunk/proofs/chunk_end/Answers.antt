-- The offset behind the chunk at an offset.
use Prim.Native.Nat.{ℕ, ◌+◌}
use borrow.Author.Rules.{part_to_end}
use mathlib.Core.Path.{sym, ap, ◌∙◌}
use native.Mathlib.Omega.{arith}
use Rattle.cob_chunk.proofs.Fields.{size_in}
use Rattle.cob_chunk.proofs.Judged.{not_negative, is_negative, ends-stated, ends-told, ends_nowhere}
use Rattle.cob_chunk.proofs.chunk_end.Goals as goal

pub returns-then-stated-lt2147483648 : goal.returns-then-stated-lt2147483648
returns-then-stated-lt2147483648 c = let x = c.args in
    let e = size_in x.file.now x.at ∙ sym c.long_at-stated.ensures.is in
    ap (λ (n : ℕ). x.at + 20 + n) (sym e) ∙ ends-stated x.file.now x.at c.requires.header c.requires (not_negative x.file.now x.at _ e c.if-stated-lt2147483648.true)

pub overflow_add-result-in-Some : goal.overflow_add-result-in-Some
overflow_add-result-in-Some c = omega (arith, c.in-Some.ensures.within.1)

pub returns-in-Some : goal.returns-in-Some
returns-in-Some c = let x = c.args in
    let e = size_in x.file.now x.at ∙ sym c.long_at-stated.ensures.is in
    let b = rw (c.kind_at.ensures, part_to_end x.file.now (x.at + 20)) at c.in-Some.ensures in
    ends-told x.file.now x.at c.requires.header _ (is_negative x.file.now x.at _ e c.if-stated-lt2147483648.false) b

pub returns-in-None : goal.returns-in-None
returns-in-None c = let x = c.args in
    let e = size_in x.file.now x.at ∙ sym c.long_at-stated.ensures.is in
    let b = rw (c.kind_at.ensures, part_to_end x.file.now (x.at + 20)) at c.in-None.ensures in
    ends_nowhere x.file.now x.at c.requires.header (is_negative x.file.now x.at _ e c.if-stated-lt2147483648.false) b
