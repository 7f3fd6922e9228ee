-- `studio_write_bytes::put_figure` meets its contract: the chunks one behind the other, each length that of what is left of the file.
use mathlib.Core.Path.{◌≡◌, sym, subst}
use Prim.Native.Nat.{ℕ, ◌+◌, ◌-◌}
use native.Mathlib.Omega.{arith}
use mathlib.Core.List.{List, [], ◌∷◌}
use lib.ListN.{length, length-append}
use Rattle.studio_write_bytes.specs.Bare.{name_data, vertex_data, face_data}
use Rattle.shared_numbers.specs.Put.{Put}
use Rattle.studio_write_bytes.proofs.Bare.{length-leaf, length-vertex_data, length-face_data, six_bytes}
use Rattle.studio_write_judge.proofs.Judged.{Ready, ready}
use Rattle.shared_numbers.proofs.Put.{put_then}
use Rattle.studio_write_bytes.proofs.put_figure.Lts as lts
use Rattle.studio_write_bytes.proofs.put_figure.Reads as reads
use Rattle.studio_write_bytes.proofs.put_figure.Tie as tie
use Rattle.studio_write_bytes.proofs.put_figure.Goals as goal

-- what is known at a place of the code
abbrev Lts-After-put_header-scene : Type 0
Lts-After-put_header-scene = lts.After-put_header tie.the-claims reads.Pre reads.Post tie.handed_clauses

-- what is known at a place of the code
abbrev Lts-Start : Type 0
Lts-Start = lts.Start tie.the-claims reads.Pre reads.Post tie.handed_clauses

-- what is known at a place of the code
abbrev Lts-After-put_header-arg-2-1 : Type 0
Lts-After-put_header-arg-2-1 = lts.After-put_header-arg2 tie.the-claims reads.Pre reads.Post tie.handed_clauses

-- what is known at a place of the code
abbrev Lts-After-put_header-arg-3-1 : Type 0
Lts-After-put_header-arg-3-1 = lts.After-put_header-arg3 tie.the-claims reads.Pre reads.Post tie.handed_clauses

-- what is known at a place of the code
abbrev Lts-After-put_header-object : Type 0
Lts-After-put_header-object = lts.After-put_header2 tie.the-claims reads.Pre reads.Post tie.handed_clauses

-- what is known at a place of the code
abbrev Lts-After-put_name-arg-1 : Type 0
Lts-After-put_name-arg-1 = lts.After-put_name-arg tie.the-claims reads.Pre reads.Post tie.handed_clauses

-- what is known at a place of the code
abbrev Lts-After-put_header-label : Type 0
Lts-After-put_header-label = lts.After-put_header3 tie.the-claims reads.Pre reads.Post tie.handed_clauses

-- what is known at a place of the code
abbrev Lts-After-put_header-arg-4-1 : Type 0
Lts-After-put_header-arg-4-1 = lts.After-put_header-arg4 tie.the-claims reads.Pre reads.Post tie.handed_clauses

-- what is known at a place of the code
abbrev Lts-After-put_name-mesh : Type 0
Lts-After-put_name-mesh = lts.After-put_name tie.the-claims reads.Pre reads.Post tie.handed_clauses

-- what is known at a place of the code
abbrev Lts-After-put_vertex_list-arg-1 : Type 0
Lts-After-put_vertex_list-arg-1 = lts.After-put_vertex_list-arg tie.the-claims reads.Pre reads.Post tie.handed_clauses

-- what is known at a place of the code
abbrev Lts-After-put_header-lists : Type 0
Lts-After-put_header-lists = lts.After-put_header4 tie.the-claims reads.Pre reads.Post tie.handed_clauses

-- what is known at a place of the code
abbrev Lts-After-put_face_list-arg-1 : Type 0
Lts-After-put_face_list-arg-1 = lts.After-put_face_list-arg tie.the-claims reads.Pre reads.Post tie.handed_clauses

-- what is known at a place of the code
abbrev Lts-After-put_vertex_list : Type 0
Lts-After-put_vertex_list = lts.After-put_vertex_list tie.the-claims reads.Pre reads.Post tie.handed_clauses

-- what is known at a place of the code
abbrev Lts-After-put_face_list : Type 0
Lts-After-put_face_list = lts.After-put_face_list tie.the-claims reads.Pre reads.Post tie.handed_clauses

-- the function's start, from the first chunk on
abbrev start : Lts-After-put_header-scene → Lts-Start
start c = c.before.before.before.before.before.before

-- the chunk before: 4D4D, 3D3D, 4000, its name, 4100, 4110
abbrev scene : Lts-After-put_header-arg-2-1 → Lts-After-put_header-scene
scene c = c.before.before.before

abbrev object : Lts-After-put_header-arg-3-1 → Lts-After-put_header-object
object c = c.before.before.before

abbrev label : Lts-After-put_name-arg-1 → Lts-After-put_header-label
label c = c.before.before.before

abbrev named : Lts-After-put_header-arg-4-1 → Lts-After-put_name-mesh
named c = c.before.before.before

abbrev mesh : Lts-After-put_vertex_list-arg-1 → Lts-After-put_header-lists
mesh c = c.before.before.before

abbrev vertex-list : Lts-After-put_face_list-arg-1 → Lts-After-put_vertex_list
vertex-list c = c.before.before.before

abbrev start-2 : Lts-After-put_header-object → Lts-Start
start-2 c = start (scene c.before)

abbrev start-3 : Lts-After-put_header-label → Lts-Start
start-3 c = start-2 (object c.before)

abbrev start-4 : Lts-After-put_name-mesh → Lts-Start
start-4 c = start-3 (label c.before)

abbrev start-5 : Lts-After-put_header-lists → Lts-Start
start-5 c = start-4 (named c.before)

abbrev start-6 : Lts-After-put_vertex_list → Lts-Start
start-6 c = start-5 (mesh c.before)

-- what was judged, and the bytes of the name with its zero
record Known (s : Lts-Start) : Type 0 where
  is-ready : Ready s.args.name.now s.args.vertices.now s.args.corners.now (length s.args.out.now) s.args.size
  named-bytes : length (name_data s.args.name.now) ≡ length s.args.name.now + 1

known_at : (s : Lts-Start) → Known s
known_at s = record { is-ready = ready _ _ _ _ _ s.requires; named-bytes = length-append s.args.name.now (0 ∷ []) }

-- from the last chunk back to each
abbrev back-6 : Lts-After-put_face_list → Lts-After-put_vertex_list
back-6 c = vertex-list c.before

abbrev back-5 : Lts-After-put_face_list → Lts-After-put_header-lists
back-5 c = mesh (back-6 c).before

abbrev back-4 : Lts-After-put_face_list → Lts-After-put_name-mesh
back-4 c = named (back-5 c).before

abbrev back-3 : Lts-After-put_face_list → Lts-After-put_header-label
back-3 c = label (back-4 c).before

abbrev back-2 : Lts-After-put_face_list → Lts-After-put_header-object
back-2 c = object (back-3 c).before

abbrev back-1 : Lts-After-put_face_list → Lts-After-put_header-scene
back-1 c = scene (back-2 c).before

pub put_header-scene-requires : goal.put_header-scene-requires
put_header-scene-requires c = let k = known_at c.before.before.before.before.before.before in omega arith

pub overflow_sub-size : goal.overflow_sub-size
overflow_sub-size c = let k = known_at (start c.before.before.before) in omega arith

pub put_header-object-requires : goal.put_header-object-requires
put_header-object-requires c = let k = known_at (start (scene c.before)) in omega arith

pub overflow_sub-size-2 : goal.overflow_sub-size-2
overflow_sub-size-2 c = let k = known_at (start-2 c.before.before.before) in omega arith

pub put_header-label-requires : goal.put_header-label-requires
put_header-label-requires c = let k = known_at (start-2 (object c.before)) in omega arith

pub put_name-mesh-requires : goal.put_name-mesh-requires
put_name-mesh-requires c = let k = known_at (start-3 (label c.before)) in omega arith

pub overflow_sub-size-3 : goal.overflow_sub-size-3
overflow_sub-size-3 c = let k = known_at (start-4 c.before.before.before) in omega arith

pub put_header-lists-requires : goal.put_header-lists-requires
put_header-lists-requires c = let k = known_at (start-4 (named c.before)) in omega arith

pub put_vertex_list-requires : goal.put_vertex_list-requires
put_vertex_list-requires c =
    let k = known_at (start-5 (mesh c.before)) in
    let r = k.is-ready in record { vertices_len = (r.whole-vertices, r.few-vertices, r.finite); vertices_in_bounds = omega arith }

pub put_face_list-requires : goal.put_face_list-requires
put_face_list-requires c =
    let r = (known_at (start-6 (vertex-list c.before))).is-ready in
    let l = (known_at (start-6 (vertex-list c.before))).named-bytes in
    let a = (start-6 (vertex-list c.before)).args in
    let v = length-leaf 0x4110 (vertex_data a.vertices.now) in
    let d = length-vertex_data a.vertices.now r.whole-vertices in
    omega arith

pub returns : goal.returns
returns c =
    let a = (start (back-1 c.before.before.before)).args in
    let r = (known_at (start (back-1 c.before.before.before))).is-ready in
    let l = (known_at (start (back-1 c.before.before.before))).named-bytes in
    let p₁ = (back-1 c.before.before.before).put_header-scene in
    let p₂ = (back-2 c.before.before.before).put_header-object in
    let p₃ = (back-3 c.before.before.before).put_header-label in
    let p₄ = (back-4 c.before.before.before).put_name-mesh in
    let p₅ = (back-5 c.before.before.before).put_header-lists in
    let p₆ = (back-6 c.before.before.before).put_vertex_list in
    let p₇ = c.put_face_list in
    let v = length-vertex_data a.vertices.now r.whole-vertices in
    let w = length-leaf 0x4110 (vertex_data a.vertices.now) in
    let f = length-face_data a.corners.now in
    subst (λ (new : List ℕ). Put a.out.now 0 new p₇.new.out p₇.result)
    (sym (six_bytes (name_data a.name.now) (vertex_data a.vertices.now) (face_data a.corners.now)
    a.size (a.size - p₁.result) (a.size - p₂.result) (a.size - p₄.result)
    (omega arith) (omega arith) (omega arith) (omega arith)))
    (put_then (omega arith) p₁.ensures
    (put_then (omega arith) p₂.ensures
    (put_then (omega arith) p₃.ensures
    (put_then (omega arith) p₄.ensures
    (put_then (omega arith) p₅.ensures
    (put_then (omega arith) p₆.ensures p₇.ensures))))))
