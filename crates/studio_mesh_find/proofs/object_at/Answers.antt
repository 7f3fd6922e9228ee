-- The name, and then the first 4100.
use mathlib.Core.Path.{◌≡◌, ap, ◌∙◌}
use Prim.Native.Nat.{ℕ, ◌+◌}
use native.Mathlib.Omega.{arith}
use lib.ListN.{length}
use Rattle.studio_rules.specs.Layout.{offset_of}
use Rattle.studio_child.proofs.Runs.{header-here, kids_at}
use Rattle.studio_mesh_find.proofs.Parts.{all_listed, name-there, name-some}
use Rattle.studio_mesh_find.proofs.object_at.Goals as goal

pub long_at-requires : goal.long_at-requires
long_at-requires c =
    let x = c in
    let b = x.requires in
    let w = header-here b.0 x.args.file.now x.args.at b.4 0x4000 b.1 b.2 b.3 b.5 in
    omega (arith, w.six, b.5.stands.stays)

pub name_size-name-requires : goal.name_size-name-requires
name_size-name-requires c =
    let x = c in
    let b = x.requires in
    let w = header-here b.0 x.args.file.now x.args.at b.4 0x4000 b.1 b.2 b.3 b.5 in
    omega (arith, w.ends, w.length-is, c.long_at.ensures.is, b.5.stands.stays)

pub overflow_add-at-4 : goal.overflow_add-at-4
overflow_add-at-4 c =
    let x = c in
    let b = x.requires in
    let w = header-here b.0 x.args.file.now x.args.at b.4 0x4000 b.1 b.2 b.3 b.5 in
    let z : c.name_size-name.result ≡ length b.1 = c.name_size-name.ensures ∙ rw c.long_at.ensures.is (name-there b.0 b.1 b.2 b.3 x.args.file.now x.args.at b.4 b.5) in
    omega (arith, w.ends, b.5.stands.stays, b.5.stands.small)

pub next_child-mesh-requires : goal.next_child-mesh-requires
next_child-mesh-requires c =
    let x = c in
    let b = x.requires in
    let w = header-here b.0 x.args.file.now x.args.at b.4 0x4000 b.1 b.2 b.3 b.5 in
    let z : c.name_size-name.result ≡ length b.1 = c.name_size-name.ensures ∙ rw c.long_at.ensures.is (name-there b.0 b.1 b.2 b.3 x.args.file.now x.args.at b.4 b.5) in
    (all_listed.2, (_, _, kids_at b.0 x.args.file.now x.args.at b.4 0x4000 b.1 b.2 b.3 b.5 (x.args.at + 6 + c.name_size-name.result) c.long_at.result (omega arith) c.long_at.ensures.is))

pub overflow_sub-result : goal.overflow_sub-result
overflow_sub-result c =
    let x = c in
    let b = x.requires in
    let w = header-here b.0 x.args.file.now x.args.at b.4 0x4000 b.1 b.2 b.3 b.5 in
    let z : c.name_size-name.result ≡ length b.1 = c.name_size-name.ensures ∙ rw c.long_at.ensures.is (name-there b.0 b.1 b.2 b.3 x.args.file.now x.args.at b.4 b.5) in
    omega (arith, name-some b.0 b.1 b.2 b.3 x.args.file.now x.args.at b.4 b.5)

pub returns : goal.returns
returns c =
    let x = c in
    let s = x.args.file.now in
    let a = x.args.at in
    λ p own kids rest stop h.
    let n : c.name_size-name.result ≡ length own = c.name_size-name.ensures ∙ rw c.long_at.ensures.is (name-there p own kids rest s a stop h) in
    let f : a + 6 + c.name_size-name.result ≡ a + (6 + length own) = omega arith in
    let k = kids_at p s a stop 0x4000 own kids rest h (a + 6 + c.name_size-name.result) c.long_at.result f c.long_at.ensures.is in
    record {
      name-size = rw n;
      mesh-at = c.next_child-mesh.ensures _ _ k ∙ ap (λ (o : ℕ). offset_of 0x4100 o kids) f;
      ends_at = rw (c.long_at.ensures.is, (header-here p s a stop 0x4000 own kids rest h).length-is);
    }
