-- Behind the part at hand, by its length.
use mathlib.Core.Path.{refl, ap, ◌∙◌}
use native.Mathlib.Omega.{arith}
use Prim.Native.Nat.{ℕ}
use Rattle.studio_rules.specs.Layout.{offset_of}
use Rattle.studio_child.proofs.Runs.{after-known}
use Rattle.studio_parts_find.proofs.Fathers.{listed_here, part_room, part-ends}
use Rattle.studio_parts_find.proofs.next_part.Goals as goal

pub long_at-requires : goal.long_at-requires
long_at-requires c =
    let x = c in
    let q = x.requires in
    let r = part_room q.0 q.1 q.2 q.3 x.args.file.now x.args.at x.args.stop q.4 _ refl in
    omega (arith, r, q.4.stands.stays)

pub next_child-requires : goal.next_child-requires
next_child-requires c =
    let x = c in
    let q = x.requires in
    let e = part-ends q.0 q.1 q.2 q.3 x.args.file.now x.args.at x.args.stop q.4 c.long_at.result c.long_at.ensures.is in
    (listed_here.1, (q.0, q.3, rw e (after-known q.0 x.args.file.now x.args.at x.args.stop 0xB002 q.1 q.2 q.3 q.4)))

pub returns : goal.returns
returns c = λ p own kids rest h.
    let x = c in
    let w = c.long_at in
    let e = part-ends p own kids rest x.args.file.now x.args.at x.args.stop h w.result w.ensures.is in
    c.next_child.ensures p rest (rw e (after-known p x.args.file.now x.args.at x.args.stop 0xB002 own kids rest h)) ∙ ap (λ (o : ℕ). offset_of 0xB002 o rest) e
