-- The mesh, or nothing.
use mathlib.Core.Path.{ap}
use mathlib.Core.List.{List}
use native.Mathlib.Omega.{arith}
use lib.ListN.{length}
use Rattle.shared_numbers.proofs.Put.{put-none}
use Rattle.studio_child.proofs.Runs.{header-here}
use Rattle.studio_mesh_find.proofs.Objects.{none_in, stood, one_in, mesh-begins, mesh-place, mesh-numbers}
use Rattle.studio_meshes_rules.specs.Standing.{Standing}
use Rattle.studio_meshes.proofs.Filling.{place_small}
use Rattle.studio_meshes.proofs.put_held.Goals as goal

pub place_of-place-requires : goal.place_of-place-requires
place_of-place-requires g₀ c =
    let x = c in
    let g = x.requires in
    mesh-begins g.0 g.1 g.2 g.3 _ _ g.4 g.5 x.args.object g.6 c.if-object.true

pub put-requires : goal.put-requires
put-requires g₀ c =
    let x = c in
    let g = x.requires in
    let m = c.if-object.true in
    let r = c.place_of-place in
    let w = header-here g.0 _ _ g.4 0x4000 g.1 g.2 g.3 g.5 in
    let q = mesh-place g.0 g.1 g.2 g.3 _ _ g.4 g.5 x.args.object g.6 m r.result r.ensures.is in
    let one = one_in g.0 g.1 g.2 g.3 _ _ g.4 g.5 x.args.object g.6 m in
    let s = g.5.stands in
    record {
      mesh = stood g.0 g.1 g.2 g.3 _ _ g.4 g.5 x.args.object g.6 m;
      is = q;
      small = place_small q s.small (omega (arith, w.six, s.stays, s.small)) (omega (arith, w.ends, s.stays, s.small));
      room = omega (arith, ap (λ (ms : List Standing). length (g₀.W.Wanted.bytes ms)) one, g.7);
    }

pub returns-then-object : goal.returns-then-object
returns-then-object g₀ c =
    let x = c in
    let r = c.place_of-place in
    let m = c.if-object.true in
    λ p own kids rest stop h is.
    rw (one_in p own kids rest _ _ stop h x.args.object is m)
    (c.put.ensures (stood p own kids rest _ _ stop h x.args.object is m)
    (mesh-place p own kids rest _ _ stop h x.args.object is m r.result r.ensures.is)
    (mesh-numbers p own kids rest _ _ stop h x.args.object is m r.result r.ensures.numbers))

pub returns : goal.returns
returns g₀ c =
    let x = c in
    λ p own kids rest stop h is.
    rw (none_in p own kids rest _ _ stop h x.args.object is c.if-object.false, g₀.met.W.Wanted.none) (put-none _ _)
