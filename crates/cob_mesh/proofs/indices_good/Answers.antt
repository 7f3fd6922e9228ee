-- Whether no hole comes first and all indices are below their counts.
use Prim.Native.Nat.{◌+◌}
use borrow.Author.Tests.{not-true, not-false}
use mathlib.Core.Path.{sym, subst, ◌∙◌}
use Rattle.shared_numbers.specs.Numbers.{long_at}
use Rattle.cob_mesh.specs.Laid.{Whole}
use Rattle.cob_mesh.proofs.Below.{hole-bad, indices_are}
use Rattle.cob_mesh.proofs.indices_good.Goals as goal

pub hole_first-requires : goal.hole_first-requires
unfolding long_at
hole_first-requires c = let x = c.args in subst (Whole x.body.now (x.l.faces + 4)) (sym (c.wide-count.ensures ∙ c.long_at.ensures.is)) c.requires.faces-whole

pub returns-then-hole_first : goal.returns-then-hole_first
returns-then-hole_first c = sym (hole-bad c.requires _ (c.wide-count.ensures ∙ c.long_at.ensures.is) (not-true _ (sym c.hole_first.ensures ∙ c.if-hole_first.true)))

pub faces_below-requires : goal.faces_below-requires
unfolding long_at
faces_below-requires c =
    let wide' = c.wide-count in
    let long-at3' = c.long_at in
    let args' = c.args in
    let pre' = c.requires in
    let x = args' in
    subst (Whole x.body.now (x.l.faces + 4)) (sym (wide'.ensures ∙ long-at3'.ensures.is)) pre'.faces-whole

pub returns : goal.returns
returns c =
    let if1' = c.if-hole_first in
    let hole-first' = c.hole_first in
    let wide' = c.wide-count in
    let long-at3' = c.long_at in
    let long-at2' = c.long_at-textures in
    let long-at' = c.long_at-vertices in
    let pre' = c.requires in
    c.faces_below.ensures ∙
    sym (indices_are (pre') _ _ _ long-at'.ensures.is long-at2'.ensures.is (wide'.ensures ∙ long-at3'.ensures.is)
    (not-false _ (sym hole-first'.ensures ∙ if1'.false)))
