-- The chunk at an offset, whose header and stated size are within the file.
use Prim.Native.Nat.{◌-◌, ◌+◌}
use borrow.Author.Rules.{part_to_end}
use mathlib.Core.Path.{◌≡◌, sym, ap, ◌∙◌}
use native.Mathlib.Omega.{arith}
use Rattle.cob_rules.specs.Kinds.{tells_end}
use Rattle.cob_rules.specs.Layout.{size_field}
use Rattle.cob_chunk.specs.Chunks.{chunk_in}
use Rattle.cob_chunk.proofs.Fields.{size_in}
use Rattle.cob_chunk.proofs.Judged.{not_negative, is_negative, stated-fits, chunk-stated, chunk-told, chunk_other, chunk_silent}
use Rattle.cob_chunk.proofs.judge_chunk.Goals as goal

pub slice_bounds-judge_stated-end : goal.slice_bounds-judge_stated-end
slice_bounds-judge_stated-end c = let x = c.args in
    let e = size_in x.file.now x.at ∙ sym c.long_at-size.ensures.is in
    let f = stated-fits x.file.now x.at c.requires (not_negative x.file.now x.at _ e c.if-size-lt2147483648.true) in
    omega arith

pub returns-then-size-lt2147483648 : goal.returns-then-size-lt2147483648
returns-then-size-lt2147483648 c = let x = c.args in
    let e = size_in x.file.now x.at ∙ sym c.long_at-size.ensures.is in
    let z : x.at + 20 + c.long_at-size.result - (x.at + 20) ≡ size_field (chunk_in x.file.now x.at) = omega arith in
    c.judge_stated.ensures ∙ rw (c.kind_at-k.ensures, z) (chunk-stated x.file.now x.at (not_negative x.file.now x.at _ e c.if-size-lt2147483648.true))

pub returns-then-size : goal.returns-then-size
returns-then-size c = let x = c.args in
    let e = size_in x.file.now x.at ∙ sym c.long_at-size.ensures.is in
    chunk_other x.file.now x.at (is_negative x.file.now x.at _ e c.if-size-lt2147483648.false) (λ q. c.if-size.true (sym e ∙ q))

pub returns-then-not-tells_end : goal.returns-then-not-tells_end
returns-then-not-tells_end c = let x = c.args in
    let e = size_in x.file.now x.at ∙ sym c.long_at-size.ensures.is in
    chunk_silent x.file.now x.at (is_negative x.file.now x.at _ e c.if-size-lt2147483648.false) (ap tells_end (sym c.kind_at-k.ensures) ∙ sym c.tells_end.ensures ∙ c.if-not-tells_end.true)

pub judge_told-requires : goal.judge_told-requires
judge_told-requires c = sym c.tells_end.ensures ∙ c.if-not-tells_end.false

pub returns : goal.returns
returns c = let x = c.args in
    let e = size_in x.file.now x.at ∙ sym c.long_at-size.ensures.is in
    let t = ap tells_end (sym c.kind_at-k.ensures) ∙ sym c.tells_end.ensures ∙ c.if-not-tells_end.false in
    c.judge_told.ensures ∙
    rw (c.kind_at-k.ensures, part_to_end x.file.now (x.at + 20))
    (chunk-told x.file.now x.at (is_negative x.file.now x.at _ e c.if-size-lt2147483648.false) (e ∙ c.if-size.false) t)
