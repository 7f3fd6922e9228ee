use Prim.Native.Nat.{ℕ, ◌+◌, ◌*◌, ◌/◌, ◌%◌}
use mathlib.Core.List.{List}
use lib.ListN.{get_or}
use mathlib.Core.Path.{◌≡◌, sym, ap, subst, ◌∙◌}
use native.Mathlib.Omega.{arith}
use Rattle.shared_tree.specs.Tree.{Comes, link_of}
use Rattle.shared_tree.proofs.Search.{comes_start, comes_on}
use Rattle.cob_seen.specs.Tree.{bits, tree_in}
use Rattle.cob_seen.proofs.Search.{bit}
use Rattle.cob_seen.proofs.descend.Goals as goal

-- the link that is read is that on the side of x
link-is : (ids links : List ℕ) (at rest bit link : ℕ) → bit ≡ rest % 2 → link ≡ get_or links (2 * at + bit) 0 → link ≡ link_of bits (tree_in ids links) at rest
link-is ids links at rest bit link b e = e ∙ ap (λ (w : ℕ). get_or links (2 * at + w) 0) b

pub loop-at-init : goal.loop-at-init
loop-at-init c = comes_start c.requires.tree c.requires.some c.args.x

pub offset_bounds-ids-at : goal.offset_bounds-ids-at
offset_bounds-ids-at c = omega (arith, c.loop-at.invariant.node, c.requires.room)

pub bounds-ids-at : goal.bounds-ids-at
bounds-ids-at c = omega (arith, c.loop-at.invariant.node, c.requires.room)

pub wide-requires : goal.wide-requires
wide-requires c = tt

pub overflow_add-at : goal.overflow_add-at
overflow_add-at c = omega (arith, bit c.loop-at.rest)

pub offset_bounds-links-at : goal.offset_bounds-links-at
offset_bounds-links-at c = omega (arith, bit c.loop-at.rest)

pub bounds-links-at : goal.bounds-links-at
bounds-links-at c = omega (arith, bit c.loop-at.rest)

pub wide-link-requires : goal.wide-link-requires
wide-link-requires c = tt

pub returns-then-link-eq0 : goal.returns-then-link-eq0
returns-then-link-eq0 c =
    let a = c.args in
    let l = c.loop-at in
    let q = link-is a.ids.now a.links.now l.at l.rest c.wide.result c.wide-link.result c.wide.ensures c.wide-link.ensures in
    record { comes = l.invariant; ends = λ n. sym q ∙ c.if-link-eq0.true }

pub loop-at-smaller : goal.loop-at-smaller
loop-at-smaller c =
    let a = c.args in
    let l = c.loop-at in
    let q = link-is a.ids.now a.links.now l.at l.rest c.wide.result c.wide-link.result c.wide.ensures c.wide-link.ensures in
    omega (arith, l.invariant.node, c.requires.tree.rises l.at l.rest l.invariant.node (omega (arith, c.if-link-eq0.false)))

pub loop-at-preserved : goal.loop-at-preserved
loop-at-preserved c =
    let a = c.args in
    let l = c.loop-at in
    let q = link-is a.ids.now a.links.now l.at l.rest c.wide.result c.wide-link.result c.wide.ensures c.wide-link.ensures in
    subst (λ (k : ℕ). Comes bits (tree_in a.ids.now a.links.now) a.count a.x k (l.rest / 2)) (sym q)
    (comes_on c.requires.tree l.invariant c.loop-at-test.true (omega (arith, c.if-link-eq0.false)))

pub returns : goal.returns
returns c = record { comes = c.loop-at.invariant; ends = λ n. absurd (n c.loop-at-test.false) }
