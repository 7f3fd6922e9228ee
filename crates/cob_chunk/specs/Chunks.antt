-- The chunk at an offset, as the code reads it; and what its functions promise.
use Rattle.std.specs.Prelude.{◌≡◌, ℕ, ◌+◌, ◌≤◌, true, ◌&&◌, ◌||◌, cond, Result, Ok, Err, List, eqb, leb, length, drop}
use Rattle.shared_words.specs.Bytes.{negative}
use Rattle.cob_rules.specs.declared.Kind.{Kind}
use Rattle.cob_rules.specs.Kinds.{is_mesh}
use Rattle.cob_rules.specs.Body.{exact}
use Rattle.cob_rules.specs.Mesh.{all_finite, face_first, faces_of, all_below}
use Rattle.cob_rules.specs.Layout.{Chunk, kind, size_field}
use Rattle.cob_rules.specs.Rules.{size_allowed}
use Rattle.cob_rules.specs.Walk.{chunk_at}
use Rattle.cob_mesh.specs.declared.Fault.{Fault as MeshFault}
use Rattle.cob_chunk.specs.declared.Fault.{Fault}

abbrev pub chunk_in : List ℕ → ℕ → Chunk
chunk_in s at = chunk_at (drop at s)

-- ---- the kind by two numbers: four letters and a version

abbrev pub kind_by : ℕ → ℕ → Kind
kind_by l v =
    cond (eqb l 0x2044_4E45 && eqb v 0x1) Kind.End
    (cond (eqb l 0x756F_7247 && eqb v 0x1_0000) Kind.Grou
    (cond (eqb l 0x486C_6F50 && eqb v 0x2_0000) Kind.PolH
    (cond (eqb l 0x3174_614D && eqb v 0x5_0000) Kind.Mat1 Kind.Other)))

-- ---- the judgement

-- the header, and a size that is stated, are within the file
pub record Stated (s : List ℕ) (at : ℕ) : Type 0 where
  pub header : at + 20 ≤ length s
  pub body : (negative 4 (size_field (chunk_in s at)) || leb (20 + size_field (chunk_in s at)) (length (drop at s))) ≡ true

-- a fault of a mesh, as one of its chunk
abbrev pub of_mesh : MeshFault → Fault
of_mesh MeshFault.Number = Fault.Number
of_mesh MeshFault.Index = Fault.Index

-- of a body that is exact
abbrev pub parts_judged : Kind → List ℕ → Result ℕ Fault
parts_judged k body =
    cond (cond (is_mesh k) (all_finite body) true)
    (cond (cond (is_mesh k) (face_first (faces_of body)) true && cond (is_mesh k) (all_below body) true) (Ok (length body)) (Err Fault.Index))
    (Err Fault.Number)

abbrev pub body_judged : Kind → List ℕ → Result ℕ Fault
body_judged k body = cond (exact k body) (parts_judged k body) (Err Fault.Length)

-- the conditions 22, 10, 11 and 12 of the walk, in order
abbrev pub judged_of : Chunk → Result ℕ Fault
judged_of c = cond (size_allowed c) (body_judged (kind c) c.body) (Err Fault.Size)
