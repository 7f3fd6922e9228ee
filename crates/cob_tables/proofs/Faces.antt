-- The faces with three corners and no holes, one more of them; and their corners put into a row.
use mathlib.Core.Path.{◌≡◌, refl, sym, ap, subst, ◌∙◌}
use Prim.Native.Nat.{ℕ, zero, suc, ◌+◌, ◌-◌, ◌*◌, ◌<◌, ◌≤◌}
use native.Mathlib.Omega.{arith}
use mir.Val.{bool_byte}
use mathlib.Core.Bool.{Bool, true, false, not, ◌&&◌, cond}
use mathlib.Core.List.{List, [], ◌∷◌, ◌++◌, append_assoc, append-nil}
use lib.ListN.{length, drop, length-append}
use lib.Seq.{drop-drop}
use borrow.Author.Tests.{eq-eqb, ne_eqb}
use Rattle.shared_words.specs.Bytes.{packed, le}
use Rattle.shared_words.specs.Effects.{filled}
use Rattle.shared_words.proofs.Bytes.{length-packed, packed_append}
use Rattle.shared_numbers.specs.Numbers.{long_at}
use Rattle.shared_numbers.specs.Put.{Put}
use Rattle.shared_numbers.proofs.Put.{put-none, put_then, put_front}
use Rattle.cob_rules.specs.Mesh.{Face, firsts, corners_at, faces_at, face_first, triangle, triangles, corners_of}
use Rattle.cob_mesh.specs.declared.Corners.{Corners}
use Rattle.cob_mesh.specs.Laid.{Whole, FaceAt}
use Rattle.cob_mesh.proofs.Faces.{rest-whole, faces-more}
use Rattle.cob_tables.specs.declared.Triangle.{Triangle}
use Rattle.std.specs.Prelude.{Option, Some, None}
use Rattle.std.specs.Option.{is_some}
use Rattle.cob_tables.specs.Triangles.{face_in, face_given, TriangleAt, TriangleFits, PutTriangle}

length-firsts : (n : ℕ) (s : List ℕ) → length (firsts n s) ≡ n
length-firsts zero s = refl
length-firsts (suc n) s = ap suc (length-firsts n (drop 8 s))

-- ---- the first of some faces

module _ {s : List ℕ} {o left : ℕ} (w : Whole s o left) (l : 0 < left) {r : Corners} (f : FaceAt s o r) where
  abbrev here : Face
  here = corners_at r.hole r.count (drop r.at s)

  abbrev next : ℕ
  next = r.at + 8 * r.count

  abbrev rest : List Face
  rest = faces_at (left - 1) (drop next s)

  first-is : triangles (faces_at left (drop o s)) ≡ cond (triangle here && face_first rest) (here ∷ []) [] ++ triangles rest
  first-is = rw (faces-more left l f)

  left_out : (triangle here && face_first rest) ≡ false → TriangleAt s o left record { corners = None; next = next }
  left_out e = record { is = first-is ∙ rw e; whole = rest-whole w l f; inside = λ at y. cc }

  pub no-hole : r.hole ≡ true → TriangleAt s o left record { corners = None; next = next }
  no-hole h = left_out (rw h)

  pub no-three : r.hole ≡ false → (r.count ≡ 3 → ⊥) → TriangleAt s o left record { corners = None; next = next }
  no-three h n = left_out (rw (h, length-firsts r.count (drop r.at s), ne_eqb r.count 3 n))

  pub no_whole : not (face_first rest) ≡ true → TriangleAt s o left record { corners = None; next = next }
  no_whole h = left_out (go (triangle here) (face_first rest) h)
    where
      go : (a b : Bool) → not b ≡ true → (a && b) ≡ false
      go true true e = sym e
      go true false e = refl
      go false b e = refl

  pub is-triangle : r.hole ≡ false → r.count ≡ 3 → not (face_first rest) ≡ false → TriangleAt s o left record { corners = Some r.at; next = next }
  is-triangle h n e =
      let t : triangle here ≡ true = rw (h, length-firsts r.count (drop r.at s), eq-eqb r.count 3 n) in
      let g : (triangle here && face_first rest) ≡ true = rw t (go (face_first rest) e) in
      let q : here ≡ face_in s r.at = rw (h, n) in
      record { is = first-is ∙ rw (g, q); whole = rest-whole w l f; inside = λ at y. let z : r.at ≡ at = cc in omega (arith, f.whole) }
    where
      go : (b : Bool) → not b ≡ false → b ≡ true
      go true e = refl
      go false e = sym e

-- ---- counted

pub record Counted (s : List ℕ) (at count o left n : ℕ) : Type 0 where
  pub is : length (triangles (faces_at count (drop at s))) ≡ n + length (triangles (faces_at left (drop o s)))
  pub whole : Whole s o left
  pub few : n + left ≤ count

pub one-most : (b : Bool) → bool_byte b ≤ 1
one-most true = omega arith
one-most false = omega arith

pub count-more : {s : List ℕ} {at count o left n : ℕ} {t : Triangle} (b : Bool) → Counted s at count o left n → 0 < left → TriangleAt s o left t → b ≡ is_some t.corners →
    Counted s at count t.next (left - 1) (n + bool_byte b)
count-more {s} {at} {count} {o} {left} {n} {t} b c l h e = record {
  is = c.is ∙ ap (λ (k : ℕ). n + k) (ap length h.is ∙ go t.corners ∙ ap (λ (x : Bool). bool_byte x + length (triangles (faces_at (left - 1) (drop t.next s)))) (sym e)) ∙ omega arith;
  whole = h.whole;
  few = omega (arith, c.few, one-most b);
}
  where
    go : (y : Option ℕ) → length (face_given s y ++ triangles (faces_at (left - 1) (drop t.next s))) ≡ bool_byte (is_some y) + length (triangles (faces_at (left - 1) (drop t.next s)))
    go (Some at) = omega arith
    go None = omega arith

pub counted-all : {s : List ℕ} {at count o left n : ℕ} → Counted s at count o left n → left ≡ 0 → n ≡ length (triangles (faces_at count (drop at s)))
counted-all c e = sym (c.is ∙ rw e (omega arith))

-- ---- put into a row

-- the three corners of a face by their positions
pub three-corners : (s : List ℕ) (at : ℕ) → (long_at s at ∷ long_at s (at + 8) ∷ long_at s (at + 16) ∷ []) ≡ (face_in s at).corners
unfolding long_at
three-corners s at = let e : at + 8 + 8 ≡ at + 16 = omega arith in rw (drop-drop 8 at s, drop-drop 8 (at + 8) s, e)

pub three-puts : {r r₁ r₂ r₃ : List ℕ} {i i₁ i₂ i₃ x y z : ℕ} (s : List ℕ) (at : ℕ) → x ≡ long_at s at → y ≡ long_at s (at + 8) → z ≡ long_at s (at + 16) → i ≤ length r →
    Put r i (le 4 x) r₁ i₁ → Put r₁ i₁ (le 4 y) r₂ i₂ → Put r₂ i₂ (le 4 z) r₃ i₃ → Put r i (packed 4 (face_in s at).corners) r₃ i₃
three-puts {r} {r₁} {r₂} {r₃} {i} {i₁} {i₂} {i₃} {x} {y} {z} s at a b c h p q t =
    let e : (x ∷ y ∷ z ∷ []) ≡ (face_in s at).corners = rw (a, b, c) (three-corners s at) in
    subst (λ (l : List ℕ). Put r i (packed 4 l) r₃ i₃) e (put_then h (put_then h p q) t)

pub record Filling (s : List ℕ) (at count : ℕ) (row₀ row : List ℕ) (o left to : ℕ) : Type 0 where
  pub done : List ℕ
  pub is : done ++ corners_of (triangles (faces_at left (drop o s))) ≡ corners_of (triangles (faces_at count (drop at s)))
  pub whole : Whole s o left
  pub put : Put row₀ 0 (packed 4 done) row to
  pub room : 4 * length (corners_of (triangles (faces_at count (drop at s)))) ≤ length row₀
  pub row-long : length row ≡ length row₀

module _ {s : List ℕ} {at count : ℕ} {row₀ row : List ℕ} {o left to : ℕ} (r : Filling s at count row₀ row o left to) (l : 0 < left) {t : Triangle} (h : TriangleAt s o left t) where
  abbrev behind : List ℕ
  behind = corners_of (triangles (faces_at (left - 1) (drop t.next s)))

  with-face : (y : Option ℕ) → t.corners ≡ y → corners_of (triangles (faces_at left (drop o s))) ≡ corners_of (face_given s y) ++ behind
  with-face y e = ap corners_of h.is ∙ rw e (go y)
    where
      go : (y : Option ℕ) → corners_of (face_given s y ++ triangles (faces_at (left - 1) (drop t.next s))) ≡ corners_of (face_given s y) ++ behind
      go (Some at) = refl
      go None = refl

  pub triangle-fits : TriangleFits s t row to
  triangle-fits = record {
    inside = h.inside;
    room = λ at y.
        let c = ap length (with-face (Some at) y) in
        let d = ap length r.is in
        omega (arith, r.room, r.row-long, r.put.ends, length-packed 4 r.done, length-append r.done (corners_of (triangles (faces_at left (drop o s)))));
  }

  pub fill_more : {row' : List ℕ} {to' : ℕ} → PutTriangle s t row to row' to' → length row' ≡ length row → Filling s at count row₀ row' t.next (left - 1) to'
  fill_more {row'} {to'} p g = go t.corners refl
    where
      go : (y : Option ℕ) → t.corners ≡ y → Filling s at count row₀ row' t.next (left - 1) to'
      go (Some k) e = record {
        done = r.done ++ (face_in s k).corners;
        is = append_assoc r.done (face_in s k).corners behind ∙ ap (λ (x : List ℕ). r.done ++ x) (sym (with-face (Some k) e)) ∙ r.is;
        whole = h.whole;
        put = rw (packed_append 4 r.done (face_in s k).corners) (put_then (omega arith) r.put (p.yes k e));
        room = r.room;
        row-long = g ∙ r.row-long;
      }
      go None e =
          let z = p.no e in
          record {
            done = r.done;
            is = ap (λ (x : List ℕ). r.done ++ x) (sym (with-face None e)) ∙ r.is;
            whole = h.whole;
            put = rw (z.0, z.1) r.put;
            room = r.room;
            row-long = g ∙ r.row-long;
          }

pub filling_starts : (s : List ℕ) (at count : ℕ) (row : List ℕ) → Whole s at count → 4 * length (corners_of (triangles (faces_at count (drop at s)))) ≤ length row → Filling s at count row row at count 0
filling_starts s at count row w m = record { done = []; is = refl; whole = w; put = put-none row 0; room = m; row-long = refl }

pub filled-all : {s : List ℕ} {at count : ℕ} {row₀ row : List ℕ} {o left to : ℕ} → Filling s at count row₀ row o left to → left ≡ 0 →
    row ≡ filled (packed 4 (corners_of (triangles (faces_at count (drop at s))))) row₀
filled-all {s} {at} {count} {row₀} {row} {o} {left} r e =
    put_front r.put ∙ ap (λ (x : List ℕ). filled (packed 4 x) row₀)
    (sym (ap (λ (k : ℕ). r.done ++ corners_of (triangles (faces_at k (drop o s)))) e ∙ append-nil r.done) ∙ r.is)
