-- The lists of vertices and of faces, among the children of the mesh.
use mathlib.Core.Path.{◌≡◌}
use mathlib.Core.List.{List}
use Prim.Native.Nat.{ℕ, ◌+◌}
use lib.ListN.{length}
use Rattle.studio_rules.specs.Layout.{Run, known}
use Rattle.studio_rules.specs.Rules.{Parent, inside}
use Rattle.studio_child.specs.Runs.{Spans}
use native.Mathlib.Omega.{arith}
use Rattle.studio_child.proofs.Runs.{header-here, kids_at}
use Rattle.studio_mesh_find.proofs.Parts.{all_listed, mesh_own, place-there}
use Rattle.studio_rules.proofs.Rows.{vertices-counted, faces-counted}
use Rattle.studio_mesh_find.proofs.place_of.Goals as goal

pub long_at-requires : goal.long_at-requires
long_at-requires c =
    let x = c in
    let b = x.requires in
    omega (arith, (header-here b.0 x.args.file.now x.args.at b.4 0x4100 b.1 b.2 b.3 b.5).six, b.5.stands.stays)

pub elements_of-vertices-requires : goal.elements_of-vertices-requires
elements_of-vertices-requires c =
    let x = c in
    let b = x.requires in
    let w = c.long_at in
    let z = mesh_own b.0 b.1 b.2 b.3 x.args.file.now x.args.at b.4 b.5 in
    (all_listed.3, (_, vertices-counted), (_, _, kids_at b.0 x.args.file.now x.args.at b.4 0x4100 b.1 b.2 b.3 b.5 (x.args.at + 6) w.result (omega arith) w.ensures.is))

pub elements_of-faces-requires : goal.elements_of-faces-requires
elements_of-faces-requires c =
    let x = c in
    let b = x.requires in
    let w = c.long_at in
    let z = mesh_own b.0 b.1 b.2 b.3 x.args.file.now x.args.at b.4 b.5 in
    (all_listed.4, (_, faces-counted), (_, _, kids_at b.0 x.args.file.now x.args.at b.4 0x4100 b.1 b.2 b.3 b.5 (x.args.at + 6) w.result (omega arith) w.ensures.is))

pub mapping_of-mapping-requires : goal.mapping_of-mapping-requires
mapping_of-mapping-requires c =
    let x = c in
    let b = x.requires in
    let w = c.long_at in
    let z = mesh_own b.0 b.1 b.2 b.3 x.args.file.now x.args.at b.4 b.5 in
    (_, _, kids_at b.0 x.args.file.now x.args.at b.4 0x4100 b.1 b.2 b.3 b.5 (x.args.at + 6) w.result (omega arith) w.ensures.is)

pub returns : goal.returns
returns c =
    let x = c in
    let s = x.args.file.now in
    let a = x.args.at in
    let w = c.long_at in
    let v = c.elements_of-vertices in
    let f = c.elements_of-faces in
    let m = c.mapping_of-mapping in
    let none : (p : Parent) (own : List ℕ) (kids rest : Run) (stop : ℕ) → Spans p (known 0x4100 own kids rest) s a stop → a + 6 ≡ a + (6 + length own) = λ p own kids rest stop h. let z = mesh_own p own kids rest s a stop h in omega arith in
    let inner : (p : Parent) (own : List ℕ) (kids rest : Run) (stop : ℕ) (h : Spans p (known 0x4100 own kids rest) s a stop) → Spans (inside p h.seen 0x4100 own) kids s (a + 6) (a + w.result) = λ p own kids rest stop h.
    kids_at p s a stop 0x4100 own kids rest h (a + 6) w.result (none p own kids rest stop h) w.ensures.is in record {
      is = λ p own kids rest stop h.
          let k = inner p own kids rest stop h in
          let vs = v.ensures.are _ _ 12 vertices-counted k in
          place-there _ k.seen kids s k.obeys p.version h.obeys.1.mapping_matches_lem x.args.name x.args.size v.result f.result m.result
          vs (f.ensures.are _ _ 8 faces-counted k) (m.ensures.is _ _ vs.count-is k);
      numbers = λ p own kids rest stop h.
          let k = inner p own kids rest stop h in
          let vs = v.ensures.are _ _ 12 vertices-counted k in
          let fs = f.ensures.are _ _ 8 faces-counted k in
          let ms = m.ensures.is _ _ vs.count-is k in
          rw (← (none p own kids rest stop h), vs.count-is, v.ensures.begin _ _ k, fs.count-is, f.ensures.begin _ _ k, ms.given.count-is, m.ensures.begins _ _ k);
    }
