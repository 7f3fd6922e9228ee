-- What a mesh of a Caligari file counts stands in its body: 12 bytes a vertex, at least 3 a face.
use mathlib.Core.Path.{◌≡◌, refl, ap}
use Prim.Native.Nat.{ℕ, zero, suc, ◌*◌, ◌≤◌}
use native.Mathlib.Omega.{arith}
use mathlib.Core.Bool.{Bool, true, false, ◌&&◌, cond}
use mathlib.Core.List.{List, [], ◌∷◌, ◌++◌}
use mathlib.Core.Option.{get_or}
use lib.ListN.{length, drop, length-drop}
use Rattle.shared_words.proofs.Numbers.{length-numbers}
use Rattle.cob_rules.specs.declared.Kind.{Kind}
use Rattle.cob_rules.specs.Kinds.{faces, group, vertices, textures}
use Rattle.cob_rules.specs.Body.{skip, face, face_run, exact}
use Rattle.cob_rules.specs.Mesh.{count_of, vertex_list, face_list, Face, face_first, faces_at, faces_of, triangle, triangles}
use Rattle.cob_rules.specs.Gives.{Mesh, mesh_in}
use Rattle.cob_rules.proofs.Body.{skip-left, counted-left}
use Rattle.cob_rules.proofs.Triangles.{three-each}
use Rattle.claim_numbers.proofs.CaligariBodies.{run_takes, stands}

vertices-few : (body : List ℕ) → exact Kind.PolH body ≡ true → 12 * count_of (vertex_list body) ≤ length body
vertices-few body h =
    let t = stands group vertices (textures ∷ faces ∷ []) body h in
    let c = (counted-left 4 (λ n. skip (12 * n)) (vertex_list body) t.left t.is).1 in
    omega (arith, (skip-left (12 * count_of (vertex_list body)) (drop 4 (vertex_list body)) t.left c).0, length-drop 4 (vertex_list body), t.short)

faces-few : (body : List ℕ) → exact Kind.PolH body ≡ true → 3 * count_of (face_list body) ≤ length body
faces-few body h =
    let t = stands (group ++ (vertices ∷ textures ∷ [])) faces [] body h in
    let c = (counted-left 4 face_run (face_list body) t.left t.is).1 in
    omega (arith, run_takes (count_of (face_list body)) (drop 4 (face_list body)) t.left c, length-drop 4 (face_list body), t.short)

triangles-few : (fs : List Face) → length (triangles fs) ≤ length fs
triangles-few [] = omega arith
triangles-few (f ∷ fs) = go (triangle f && face_first fs) (triangles-few fs)
  where
    go : (b : Bool) → length (triangles fs) ≤ length fs → length (cond b (f ∷ []) [] ++ triangles fs) ≤ suc (length fs)
    go true h = omega arith
    go false h = omega arith

length-faces : (n : ℕ) (s : List ℕ) → length (faces_at n s) ≡ n
length-faces zero s = refl
length-faces (suc n) s = ap suc (length-faces n (get_or (face s) []))

-- n is at least each
pub record Small (n : ℕ) (m : Mesh) : Type 0 where
  pub count : m.vertex_count ≤ n
  pub vertices : length m.vertices ≤ n
  pub corners : length m.corners ≤ n

pub mesh_small : (n : ℕ) (body : List ℕ) → length body ≤ n → exact Kind.PolH body ≡ true → Small n (mesh_in body)
mesh_small n body l h =
    let v = vertices-few body h in
    let f = faces-few body h in
    let fs = faces_of body in
    record {
      count = omega arith;
      vertices = omega (arith, length-numbers 4 (3 * count_of (vertex_list body)) (drop 4 (vertex_list body)));
      corners = omega (arith, three-each fs, triangles-few fs, length-faces (count_of (face_list body)) (drop 4 (face_list body)));
    }
