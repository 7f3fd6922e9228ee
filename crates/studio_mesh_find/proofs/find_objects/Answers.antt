-- The one 3D3D, and the first object in it: no mesh stands before that.
use native.Mathlib.Omega.{arith}
use Prim.Native.Nat.{◌+◌, ◌≤◌}
use lib.ListN.{length}
use Rattle.studio_child.proofs.Figure.{figure_kids}
use Rattle.studio_mesh_find.proofs.Parts.{all_listed}
use Rattle.studio_mesh_find.proofs.Meshes.{objects-header, objects_spans, objects-from}
use Rattle.studio_mesh_find.proofs.find_objects.Lts as lts
use Rattle.studio_mesh_find.proofs.find_objects.Reads as reads
use Rattle.studio_mesh_find.proofs.find_objects.Tie as tie
use Rattle.studio_mesh_find.proofs.find_objects.Goals as goal

-- what is known at a place of the code
abbrev Lts-After-next_child-at : Type 0
Lts-After-next_child-at = lts.After-next_child tie.the-claims reads.Pre reads.Post

-- its header stands in the file
header : (d : Lts-After-next_child-at) → d.next_child-at.result + 6 ≤ length d.args.file.now
header d =
    let x = d.before.before in
    objects-header x.args.file.now x.requires.0 x.requires.1 d.next_child-at.result (d.next_child-at.ensures _ _ (figure_kids x.args.file.now x.requires.0 x.requires.1))

pub next_child-at-requires : goal.next_child-at-requires
next_child-at-requires c =
    let x = c in
    (all_listed.0, (_, _, figure_kids x.args.file.now x.requires.0 x.requires.1))

pub overflow_add-at : goal.overflow_add-at
overflow_add-at c = omega (arith, header c.before, c.requires.1.within-limit)

pub long_at-requires : goal.long_at-requires
long_at-requires c = omega (arith, header c.before)

pub overflow_add-stop : goal.overflow_add-stop
overflow_add-stop c = omega (arith, header c.before.before, c.long_at.ensures.small, c.requires.1.within-limit)

pub overflow_add-at-2 : goal.overflow_add-at-2
overflow_add-at-2 c = omega (arith, header c.before.before, c.requires.1.within-limit)

pub next_child-from-requires : goal.next_child-from-requires
next_child-from-requires c =
    let x = c in
    let o = c.next_child-at in
    let e = o.ensures _ _ (figure_kids x.args.file.now x.requires.0 x.requires.1) in
    (all_listed.1, (_, _, objects_spans x.args.file.now x.requires.0 x.requires.1 o.result e c.long_at.result c.long_at.ensures.is))

pub returns : goal.returns
returns c =
    let x = c in
    let s = x.args.file.now in
    let o = c.next_child-at in
    let l = c.long_at in
    λ kids m.
    let e = o.ensures _ _ (figure_kids s kids m) in
    let h = objects_spans s kids m o.result e l.result l.ensures.is in
    objects-from s kids m o.result e l.result l.ensures.is c.next_child-from.result (c.next_child-from.ensures _ _ h)
