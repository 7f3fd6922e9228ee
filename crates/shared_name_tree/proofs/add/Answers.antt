-- The node is put at the link that is free.
use mathlib.Core.Path.{◌≡◌}
use Prim.Native.Nat.{◌+◌, ◌-◌}
use native.Mathlib.Omega.{arith}
use Rattle.shared_name_tree.proofs.Row.{grown}
use Rattle.shared_name_tree.proofs.add.Goals as goal

pub returns : goal.returns
returns c =
    let r = c.requires in
    let a = c.args in
    let e : a.at + a.len - a.at ≡ a.len = omega arith in
    grown a.names.now a.nodes.now a.count c.in-Some.place a.at a.len r.node (rw e at c.in-Some.ensures) r.holds r.whole
