-- `studio_figure_chunks::put_lists` meets its contract: the chunks one behind the other, each length that of what is left.
use mathlib.Core.Path.{◌≡◌}
use Prim.Native.Nat.{◌+◌, ◌-◌, ◌*◌}
use native.Mathlib.Omega.{arith}
use mathlib.Core.List.{[], ◌∷◌}
use lib.ListN.{length, length-append}
use Rattle.shared_numbers.proofs.Put.{put_then}
use Rattle.studio_write_judge.specs.Judged.{triples}
use Rattle.studio_rules.specs.Layout.{end, known, bytes}
use Rattle.studio_write_bytes.specs.Bare.{name_data, vertex_data}
use Rattle.studio_write_bytes.proofs.Bare.{length-leaf, length-vertex_data}
use Rattle.studio_figure_chunks.proofs.put_lists.Lts as lts
use Rattle.studio_figure_chunks.proofs.put_lists.Reads as reads
use Rattle.studio_figure_chunks.proofs.put_lists.Tie as tie
use Rattle.studio_figure_chunks.proofs.put_lists.Goals as goal

-- what is known at a place of the code
abbrev Lts-Start : Type 0
Lts-Start = lts.Start tie.the-claims reads.Pre reads.Post tie.handed_clauses

-- what the name and the vertices take
record Long (s : Lts-Start) : Type 0 where
  name : length (name_data s.args.name.now) ≡ length s.args.name.now + 1
  vertices : length (bytes (known 0x4110 (vertex_data s.args.vertices.now) end end)) ≡ 8 + 12 * triples s.args.vertices.now

long : (s : Lts-Start) → Long s
long s =
    let v = length-vertex_data s.args.vertices.now s.requires.vertices_len.0 in
    record { name = length-append s.args.name.now (0 ∷ []); vertices = omega (arith, length-leaf 0x4110 (vertex_data s.args.vertices.now)) }

pub overflow_sub-end : goal.overflow_sub-end
overflow_sub-end c = let l = long c.before.before.before.before.before.before.before.before.before.before.before.before.before in omega arith

pub put_header-lists-requires : goal.put_header-lists-requires
put_header-lists-requires c = let l = long c.before.before.before.before.before.before.before.before.before.before.before.before.before.before in (omega arith, omega arith)

pub put_vertex_list-list-requires : goal.put_vertex_list-list-requires
put_vertex_list-list-requires c =
    let x = c.before.before.before.before.before.before.before.before.before.before.before.before.before.before.before.before.before.before in
    let l = long x in record { vertices_len = (x.requires.vertices_len.0, x.requires.vertices_len.1, x.requires.vertices_len.2); vertices_in_bounds = omega arith }

pub overflow_sub-end-2 : goal.overflow_sub-end-2
overflow_sub-end-2 c = let l = long c.before.before.before.before.before.before.before.before.before.before.before.before.before.before.before.before.before.before.before.before.before in omega arith

pub put_header-count-requires : goal.put_header-count-requires
put_header-count-requires c = let l = long c.before.before.before.before.before.before.before.before.before.before.before.before.before.before.before.before.before.before.before.before.before.before in (omega arith, omega arith)

pub put_word-faces-requires : goal.put_word-faces-requires
put_word-faces-requires c = let l = long c.before.before.before.before.before.before.before.before.before.before.before.before.before.before.before.before.before.before.before.before.before.before.before.before.before.before in omega arith

pub put_faces-requires : goal.put_faces-requires
put_faces-requires c = let l = long c.before.before.before.before.before.before.before.before.before.before.before.before.before.before.before.before.before.before.before.before.before.before.before.before.before.before.before.before.before.before in
    omega (
      arith,
      c.requires.corners_bound.0,
      c.requires.corners_bound.2,
      c.put_header-label.ensures.ends,
      c.put_name-mesh.ensures.ends,
      c.put_header-lists.ensures.ends,
      c.put_vertex_list-list.ensures.ends,
      c.put_header-count.ensures.ends,
      c.put_word-faces.ensures.ends,
    )

pub returns : goal.returns
returns c =
    let a = c.args in
    let l = long c.before.before.before.before.before.before.before.before.before.before.before.before.before.before.before.before.before.before.before.before.before.before.before.before.before.before.before.before.before.before.before.before.before in
    let room = c.requires.corners_bound.2 in
    let enough = c.requires.corners_bound.0 in
    let p₁ = c.put_header-label in
    let p₂ = c.put_name-mesh in
    let p₃ = c.put_header-lists in
    let p₄ = c.put_vertex_list-list in
    let p₅ = c.put_header-count in
    let p₆ = c.put_word-faces in
    let e : a.size - (7 + length a.name.now) ≡ a.at + a.size - p₂.result = omega (arith, p₁.ensures.ends, p₂.ensures.ends) in
    let f : a.size - (21 + length a.name.now + 12 * triples a.vertices.now) ≡ a.at + a.size - p₄.result = omega (arith, p₁.ensures.ends, p₂.ensures.ends, p₃.ensures.ends, p₄.ensures.ends) in
    rw (e, f)
    (put_then (omega arith) p₁.ensures
    (put_then (omega arith) p₂.ensures
    (put_then (omega arith) p₃.ensures
    (put_then (omega arith) p₄.ensures
    (put_then (omega (arith, p₁.ensures.ends, p₂.ensures.ends, p₃.ensures.ends, p₄.ensures.ends)) p₅.ensures
    (put_then (omega (arith, p₁.ensures.ends, p₂.ensures.ends, p₃.ensures.ends, p₄.ensures.ends, p₅.ensures.ends)) p₆.ensures c.put_faces.ensures))))))
