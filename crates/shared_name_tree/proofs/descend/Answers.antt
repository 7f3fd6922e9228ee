use mathlib.Core.Path.{sym, subst, ◌∙◌}
use Prim.Native.Nat.{◌+◌, ◌*◌, ◌%◌}
use native.Mathlib.Omega.{arith}
use lib.ListN.{get_or}
use Rattle.shared_tree.specs.Tree.{Comes}
use Rattle.shared_tree.proofs.Search.{comes_on}
use Rattle.shared_name_tree.specs.declared.Turn.{Turn}
use Rattle.shared_name_tree.specs.Names.{way, tree_in}
use Rattle.shared_name_tree.proofs.Held.{not_same}
use Rattle.shared_name_tree.proofs.Row.{landed_none, landed_there, landed_open}
use Rattle.shared_name_tree.proofs.descend.Goals as goal

pub returns-then-count-eq0 : goal.returns-then-count-eq0
returns-then-count-eq0 c =
    let s = c in
    landed_none s.args.names.now s.args.nodes.now s.args.name.now s.args.count c.if-count-eq0.true s.requires.tree

pub returns-then-link-eq0 : goal.returns-then-link-eq0
returns-then-link-eq0 c =
    let l = c.loop-turn in
    let s = c in
    let x = s.args.name.now in
    landed_open s.args.names.now s.args.nodes.now x s.requires.tree (record { comes = l.invariant; ends = λ n. c.if-link-eq0.true })
    (not_same (sym c.is_at.ensures ∙ c.loop-turn-test.true))

pub loop-turn-preserved : goal.loop-turn-preserved
loop-turn-preserved c =
    let l = c.loop-turn in
    let s = c in
    let x = s.args.name.now in
    let other = not_same (sym c.is_at.ensures ∙ c.loop-turn-test.true) in
    subst (λ (t : Turn). Comes way (tree_in s.args.names.now s.args.nodes.now) s.args.count x (get_or s.args.nodes.now (4 * l.k + 2 + l.turn.rest % 2) 0) t)
    (sym c.next-turn.ensures) (comes_on s.requires.tree l.invariant other (omega (arith, c.if-link-eq0.false)))

pub returns : goal.returns
returns c =
    let a = c.args in
    landed_there a.names.now a.nodes.now a.name.now c.loop-turn.invariant
    (sym c.is_at.ensures ∙ c.loop-turn-test.false)
