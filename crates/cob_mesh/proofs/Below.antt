-- Indices below their counts: one corner more, one face more; and floats and indices by positions.
use mathlib.Core.Path.{◌≡◌, refl, sym, ap, ◌∙◌}
use Prim.Native.Nat.{ℕ, zero, suc, ◌+◌, ◌-◌, ◌*◌, ◌<◌}
use native.Mathlib.Omega.{arith}
use mathlib.Core.Bool.{Bool, true, false, not, ◌&&◌, and-false}
use mathlib.Core.List.{List, ◌∷◌}
use lib.Dec.{ltb}
use lib.ListN.{drop}
use lib.Seq.{drop-drop}
use Rattle.shared_words.specs.Bytes.{numbers}
use Rattle.shared_words.specs.Lists.{every}
use Rattle.shared_words.specs.Floats.{finite}
use Rattle.shared_numbers.specs.Numbers.{long_at}
use Rattle.cob_rules.specs.Mesh.{vertex_numbers, texture_numbers, firsts, faces_at, faces_of, face_first, all_finite, all_below}
use Rattle.cob_mesh.specs.declared.Lists.{Lists}
use Rattle.cob_mesh.specs.declared.Corners.{Corners}
use Rattle.cob_mesh.specs.Laid.{Whole, Laid, FaceAt, all_corners, faces_below}
use Rattle.cob_mesh.proofs.Faces.{rest-whole, faces-more}

-- ---- corners

-- the first of so many at o, and the others
first_of : (s : List ℕ) (o left : ℕ) → 0 < left → firsts left (drop o s) ≡ long_at s o ∷ firsts (left - 1) (drop (o + 8) s)
unfolding long_at
first_of s o zero l = absurd (omega arith)
first_of s o (suc n) l = let e : suc n - 1 ≡ n = omega arith in rw (e, drop-drop 8 o s)

module _ (s : List ℕ) (v t o left : ℕ) (l : 0 < left) where
  -- the textures stand four bytes on
  second-of : firsts left (drop 4 (drop o s)) ≡ long_at s (o + 4) ∷ firsts (left - 1) (drop 4 (drop (o + 8) s))
  second-of =
      let e : o + 4 + 8 ≡ o + 8 + 4 = omega arith in
      rw (drop-drop 4 o s, drop-drop 4 (o + 8) s) (first_of s (o + 4) left l ∙ rw e)

  corner : all_corners v t left (drop o s) ≡
      ((ltb (long_at s o) v && every (λ i. ltb i v) (firsts (left - 1) (drop (o + 8) s))) &&
      (ltb (long_at s (o + 4)) t && every (λ i. ltb i t) (firsts (left - 1) (drop 4 (drop (o + 8) s)))))
  unfolding every
  corner = rw (first_of s o left l, second-of)

  pub corner-good : ltb (long_at s o) v ≡ true → ltb (long_at s (o + 4)) t ≡ true → all_corners v t left (drop o s) ≡ all_corners v t (left - 1) (drop (o + 8) s)
  corner-good a b = corner ∙ rw (a, b)

  pub vertex-bad : ltb (long_at s o) v ≡ false → all_corners v t left (drop o s) ≡ false
  vertex-bad a = corner ∙ rw a

  pub texture-bad : ltb (long_at s (o + 4)) t ≡ false → all_corners v t left (drop o s) ≡ false
  texture-bad b = corner ∙ rw b (and-false (ltb (long_at s o) v && every (λ i. ltb i v) (firsts (left - 1) (drop (o + 8) s))))

-- ---- faces: of `count` from `at` on, those before o are good

pub record Passed (v t : ℕ) (s : List ℕ) (at count o left : ℕ) : Type 0 where
  pub is : faces_below v t (faces_at count (drop at s)) ≡ faces_below v t (faces_at left (drop o s))
  pub whole : Whole s o left

module _ {v t : ℕ} {s : List ℕ} {at count o left : ℕ} (p : Passed v t s at count o left) (l : 0 < left) {r : Corners} (f : FaceAt s o r) where
  face-first : faces_below v t (faces_at left (drop o s)) ≡
      (all_corners v t r.count (drop r.at s) && faces_below v t (faces_at (left - 1) (drop (r.at + 8 * r.count) s)))
  unfolding every
  face-first = rw (faces-more left l f)

  pub face-good : all_corners v t r.count (drop r.at s) ≡ true → Passed v t s at count (r.at + 8 * r.count) (left - 1)
  face-good g = record { is = p.is ∙ face-first ∙ rw g; whole = rest-whole p.whole l f }

  pub face-bad : all_corners v t r.count (drop r.at s) ≡ false → faces_below v t (faces_at count (drop at s)) ≡ false
  face-bad g = p.is ∙ face-first ∙ rw g

pub passed-all : {v t : ℕ} {s : List ℕ} {at count o left : ℕ} → Passed v t s at count o left → left ≡ 0 → faces_below v t (faces_at count (drop at s)) ≡ true
unfolding every
passed-all p e = p.is ∙ rw e

-- ---- the lists of a body by their positions

module _ {body : List ℕ} {l : Lists} (h : Laid body l) where
  pub vertices_are : vertex_numbers body ≡ numbers 4 (3 * long_at body l.vertices) (drop (l.vertices + 4) body)
  unfolding long_at
  vertices_are = rw (h.vertices-at, drop-drop 4 l.vertices body)

  pub textures_are : texture_numbers body ≡ numbers 4 (2 * long_at body l.textures) (drop (l.textures + 4) body)
  unfolding long_at
  textures_are = rw (h.textures-at, drop-drop 4 l.textures body)

  pub faces_are : faces_of body ≡ faces_at (long_at body l.faces) (drop (l.faces + 4) body)
  unfolding long_at
  faces_are = rw (h.faces-at, drop-drop 4 l.faces body)

  pub below-is : all_below body ≡ faces_below (long_at body l.vertices) (long_at body l.textures) (faces_at (long_at body l.faces) (drop (l.faces + 4) body))
  unfolding long_at
  below-is = rw (h.vertices-at, h.textures-at, h.faces-at, drop-drop 4 l.faces body)

-- the first of some faces is a hole, or there is none
pub hole-is : {s : List ℕ} {o : ℕ} {r : Corners} (left : ℕ) → 0 < left → FaceAt s o r → r.hole ≡ not (face_first (faces_at left (drop o s)))
hole-is {s} {o} {r} left l f = rw (faces-more left l f) (go r.hole)
  where
    go : (b : Bool) → b ≡ not (not b)
    go true = refl
    go false = refl

-- ---- the answers

module _ {body : List ℕ} {l : Lists} (h : Laid body l) where
  abbrev vertex_floats : Bool
  vertex_floats = every finite (numbers 4 (3 * long_at body l.vertices) (drop (l.vertices + 4) body))

  abbrev texture_floats : Bool
  texture_floats = every finite (numbers 4 (2 * long_at body l.textures) (drop (l.textures + 4) body))

  pub floats_are : all_finite body ≡ (vertex_floats && texture_floats)
  floats_are = rw (vertices_are h, textures_are h)

  pub vertices-bad : vertex_floats ≡ false → all_finite body ≡ false
  vertices-bad e = floats_are ∙ rw e

  pub textures-bad : texture_floats ≡ false → all_finite body ≡ false
  textures-bad e = floats_are ∙ rw e (and-false vertex_floats)

  pub floats-good : vertex_floats ≡ true → texture_floats ≡ true → all_finite body ≡ true
  floats-good a b = floats_are ∙ rw (a, b)

  pub hole-bad : (n : ℕ) → n ≡ long_at body l.faces → face_first (faces_at n (drop (l.faces + 4) body)) ≡ false → (face_first (faces_of body) && all_below body) ≡ false
  hole-bad n e f = rw (faces_are h, ← e, f)

  pub indices_are : (v t n : ℕ) → v ≡ long_at body l.vertices → t ≡ long_at body l.textures → n ≡ long_at body l.faces →
      face_first (faces_at n (drop (l.faces + 4) body)) ≡ true → (face_first (faces_of body) && all_below body) ≡ faces_below v t (faces_at n (drop (l.faces + 4) body))
  indices_are v t n a b e f =
      let first : face_first (faces_of body) ≡ true = ap face_first (faces_are h) ∙ ap (λ (k : ℕ). face_first (faces_at k (drop (l.faces + 4) body))) (sym e) ∙ f in
      rw first (below-is h ∙ rw (← a, ← b, ← e))
