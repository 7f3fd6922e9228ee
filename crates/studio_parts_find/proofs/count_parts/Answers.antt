use mathlib.Core.Path.{◌≡◌, refl, ap, ◌∙◌}
use native.Mathlib.Omega.{arith}
use mathlib.Core.List.{[], ◌∷◌}
use Prim.Native.Nat.{◌-◌}
use lib.ListN.{length, length-append}
use Rattle.studio_rules.specs.OwnData.{father}
use Rattle.studio_rules.specs.Layout.{child}
use Rattle.studio_rules.specs.Gives.{fathers}
use Rattle.studio_parts_find.proofs.Fathers.{listed_here}
use Rattle.studio_parts_find.proofs.Before.{none_before, all-before, here, goes_on, one-before}
use Rattle.studio_rules.proofs.Parts.{length_from}
use Rattle.studio_parts_find.proofs.count_parts.Goals as goal

pub next_child-at-requires : goal.next_child-at-requires
next_child-at-requires c = let q = c.requires in (listed_here.1, (_, _, q.1.spans))

pub loop-at-init : goal.loop-at-init
loop-at-init c = λ kids q. ([], refl, none_before _ _ _ _ _ _ q.spans (c.next_child-at.ensures _ _ q.spans))

pub overflow_add-n : goal.overflow_add-n
overflow_add-n c =
    let q = c.requires in
    let w = c.loop-at.invariant q.0 q.1 in
    omega (arith, w.1, w.2.few, c.loop-at-test.true, q.1.spans.stands.stays, q.1.spans.stands.small)

pub next_part-at-requires : goal.next_part-at-requires
next_part-at-requires c =
    let q = c.requires in
    let h = here _ _ _ _ _ _ (c.loop-at.invariant q.0 q.1).2 c.loop-at-test.true in
    (q.1.p, h.own, h.kids, h.rest, h.spans)

pub loop-at-smaller : goal.loop-at-smaller
loop-at-smaller c =
    let q = c.requires in
    let w = c.loop-at.invariant q.0 q.1 in
    let h = here _ _ _ _ _ _ w.2 c.loop-at-test.true in
    omega (arith, goes_on _ _ _ _ _ _ w.2 h c.next_part-at.result (c.next_part-at.ensures _ _ _ _ h.spans), c.loop-at-test.true)

pub loop-at-preserved : goal.loop-at-preserved
loop-at-preserved c = λ kids q.
    let w = c.loop-at.invariant kids q in
    let h = here _ _ _ _ _ _ w.2 c.loop-at-test.true in
    (_, length-append w.0 (father (child 0xB010 h.kids) ∷ []) ∙ omega (arith, w.1), one-before _ _ _ _ _ _ w.2 h c.next_part-at.result (c.next_part-at.ensures _ _ _ _ h.spans))

pub returns : goal.returns
returns c = λ kids q.
    let w = c.loop-at.invariant kids q in
    let n : length (fathers kids) ≡ length w.0 = ap length (all-before _ _ _ _ _ _ w.2 c.loop-at-test.false) in
    omega (arith, n, w.1, length_from [] (fathers kids))
