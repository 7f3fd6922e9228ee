-- The kind of the chunk at an offset.
use mathlib.Core.Path.{sym, ◌∙◌}
use native.Mathlib.Omega.{arith}
use Rattle.shared_words.proofs.Bytes.{bytes-all}
use Rattle.cob_chunk.proofs.Fields.{kind_in_lem}
use Rattle.cob_chunk.proofs.kind_at.Goals as goal

pub returns : goal.returns
returns c = let x = c.args in
    let b = bytes-all x.file.now (λ i. omega (arith, c.type_inv.file i)) in
    c.kind_of.ensures ∙ rw (c.long_at.ensures.is, c.long_at-2.ensures.is) (sym (kind_in_lem x.file.now x.at b (omega arith)))
