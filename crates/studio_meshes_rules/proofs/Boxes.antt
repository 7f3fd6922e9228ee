-- Each of all boxes is the box of its mesh.
use Rattle.std.specs.Prelude.{Ok, Result, Err}
use mathlib.Core.Path.{◌≡◌, refl, sym, ap, ◌∙◌}
use mathlib.Core.Bool.{Bool, true, false, cond}
use mathlib.Core.List.{List, [], ◌∷◌, ◌++◌, append_assoc}
use mathlib.Core.Option.{some}
use Prim.Native.Nat.{ℕ, zero, suc, ◌+◌, ◌*◌, ◌<◌}
use native.Mathlib.Omega.{arith}
use lib.Dec.{eqb, leb}
use lib.ListN.{length, take, drop, get_elem?}
use lib.Seq.{take_at, drop-append-add}
use Rattle.shared_words.specs.Bytes.{packed}
use Rattle.shared_words.specs.Conditions.{Answer, refused, accepted}
use Rattle.shared_words.specs.Effects.{filled}
use Rattle.shared_words.specs.declared.Refusal.{Refusal}
use Rattle.shared_words.specs.declared.Refusal.TheVariants.{Empty}
use Rattle.shared_words.proofs.Bytes.{length-packed, packed_append}
use Rattle.studio_rules.specs.declared.Boxed.{Boxed}
use Rattle.studio_rules.specs.Layout.{Run}
use Rattle.studio_rules.specs.Walk.{verdict}
use Rattle.studio_rules.specs.Gives.{Mesh, meshes}
use Rattle.studio_rules.specs.Box.{bounding_box_of, centre_of}
use Rattle.studio_rules.specs.Calls.{around_of, box_call, all_of, box_answer}
use Rattle.studio_meshes_rules.specs.Standing.{flattened}
use Rattle.studio_meshes_rules.specs.Boxes.{box_numbers, mesh_box, box_bytes, boxes_call}
use Rattle.studio_meshes_rules.specs.Theorems.{BoxAt, EachBox}

-- a box, or none, has nine numbers
pub nine-each : (m : Mesh) → length (mesh_box m) ≡ 9
nine-each m = go (eqb m.vertex_count 0)
  where
    go : (b : Bool) → length (box_numbers (cond b (Err Empty) (box_answer (bounding_box_of m.vertex_count m.vertices) (centre_of (bounding_box_of m.vertex_count m.vertices))))) ≡ 9
    go true = refl
    go false = refl

-- a mesh has a box, or none for want of vertices
none_but_empty : (m : Mesh) (r : Refusal) → around_of m ≡ Err r → r ≡ Empty
none_but_empty m r e = go (eqb m.vertex_count 0) e
  where
    go : (b : Bool) → cond b (Err Empty) (box_answer (bounding_box_of m.vertex_count m.vertices) (centre_of (bounding_box_of m.vertex_count m.vertices))) ≡ Err r → r ≡ Empty
    go true q = cc
    go false q = absurd (let z : ◌≡◌ {A = ℕ} 0 1 = cc in omega arith)

-- the mesh of a number, and its bytes among those of all
record Nth (ms : List Mesh) (behind : List ℕ) (i : ℕ) : Type 0 where
  mesh : Mesh
  is : get_elem? ms i ≡ some mesh
  there : take 36 (drop (36 * i) (packed 4 (flattened mesh_box ms) ++ behind)) ≡ packed 4 (mesh_box mesh)

module _ (m : Mesh) (ms : List Mesh) (behind : List ℕ) where
  abbrev front : List ℕ
  front = packed 4 (mesh_box m)

  abbrev back : List ℕ
  back = packed 4 (flattened mesh_box ms) ++ behind

  long : length front ≡ 36
  long = omega (arith, length-packed 4 (mesh_box m), nine-each m)

  split : packed 4 (flattened mesh_box (m ∷ ms)) ++ behind ≡ front ++ back
  split = rw (packed_append 4 (mesh_box m) (flattened mesh_box ms)) (append_assoc front (packed 4 (flattened mesh_box ms)) behind)

  first : Nth (m ∷ ms) behind 0
  first = record { mesh = m; is = refl; there = ap (take 36) split ∙ take_at front back 36 long }

  later : (i : ℕ) → Nth ms behind i → Nth (m ∷ ms) behind (suc i)
  later i r =
      let e : 36 * suc i ≡ length front + 36 * i = omega (arith, long) in
      let d : drop (36 * suc i) (front ++ back) ≡ drop (36 * i) back = ap (λ (k : ℕ). drop k (front ++ back)) e ∙ drop-append-add front back (36 * i) in
      record { mesh = r.mesh; is = r.is; there = ap (λ (x : List ℕ). take 36 (drop (36 * suc i) x)) split ∙ ap (take 36) d ∙ r.there }

nth : (ms : List Mesh) (behind : List ℕ) (i : ℕ) → i < length ms → Nth ms behind i
nth [] behind i l = absurd (omega arith)
nth (m ∷ ms) behind zero l = first m ms behind
nth (m ∷ ms) behind (suc i) l = later m ms behind i (nth ms behind i (omega arith))

-- ---- the calls

-- a filled row, by the verdict on the file
by : (v : Answer Run) (row : List ℕ) (n : ℕ) → (all_of meshes box_bytes row v).answer ≡ Ok n →
    (kids : Run) × (v ≡ accepted kids) × (n ≡ length (meshes kids)) × ((all_of meshes box_bytes row v).rows ≡ filled (box_bytes.encode (meshes kids)) row)
by (refused r) row n e = absurd (let z : ◌≡◌ {A = ℕ} 0 1 = cc in omega arith)
by (accepted kids) row n e = go (leb (length (meshes kids)) (box_bytes.room (length row))) refl
  where
    go : (b : Bool) → leb (length (meshes kids)) (box_bytes.room (length row)) ≡ b →
        (k : Run) × (accepted kids ≡ accepted k) × (n ≡ length (meshes k)) × ((all_of meshes box_bytes row (accepted kids)).rows ≡ filled (box_bytes.encode (meshes k)) row)
    go true t = let f = rw t at e in (kids, refl, (let z : length (meshes kids) ≡ n = cc in sym z), rw t)
    go false t = let f = rw t at e in absurd (let z : ◌≡◌ {A = ℕ} 0 1 = cc in omega arith)

box_of : (s : List ℕ) (i : ℕ) (kids : Run) → verdict s ≡ accepted kids → (m : Mesh) → get_elem? (meshes kids) i ≡ some m → box_call s i ≡ around_of m
unfolding box_call
box_of s i kids v m e = rw (v, e)

box-at : (s row : List ℕ) (i : ℕ) (kids : Run) → verdict s ≡ accepted kids → i < length (meshes kids) →
    (boxes_call box_bytes s row).rows ≡ filled (box_bytes.encode (meshes kids)) row → BoxAt s row i
box-at s row i kids v l f =
    let r = nth (meshes kids) (drop (length (box_bytes.encode (meshes kids))) row) i l in
    let box = box_of s i kids v r.mesh r.is in
    record {
      is = ap (λ (x : List ℕ). take 36 (drop (36 * i) x)) f ∙ r.there ∙ ap (λ (x : Result Boxed Refusal). packed 4 (box_numbers x)) (sym box);
      or_empty = λ x q. none_but_empty r.mesh x (sym box ∙ q);
    }

pub each-box : EachBox
unfolding boxes_call
each-box s row n e i l = let b = by (verdict s) row n e in box-at s row i b.0 b.1 (omega (arith, b.2)) b.3
