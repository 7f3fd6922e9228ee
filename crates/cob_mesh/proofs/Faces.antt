-- One face that fits, and a run of faces.
use mathlib.Core.Path.{◌≡◌, refl, sym, ap, ◌∙◌}
use Prim.Native.Nat.{ℕ, zero, suc, ◌+◌, ◌-◌, ◌*◌, ◌<◌, ◌≤◌}
use native.Mathlib.Omega.{arith}
use native.Mathlib.Numerals.{add-one}
use mathlib.Core.Bool.{Bool, true, false, not, cond, false≢true}
use mathlib.Core.List.{List, [], ◌∷◌}
use mathlib.Core.Option.{Option, none, some}
use lib.Dec.{leb, ltb}
use lib.ListN.{length, take, drop, get_or, length-drop, drop_of_length-le}
use lib.Seq.{drop-cons, drop-drop}
use borrow.Author.Tests.{leb-true, leb-false, ltb-true, ltb-false, not-true}
use Rattle.shared_words.specs.Bytes.{value, negative}
use Rattle.shared_words.proofs.Bools.{and_parts}
use Rattle.cob_rules.specs.Body.{skip, counted, hole, face, face_run, fits}
use Rattle.cob_rules.specs.Mesh.{corners_at, faces_at}
use Rattle.cob_rules.proofs.Body.{skip-left, counted-left, then_left}
use Rattle.cob_body.specs.Ends.{Of}
use Rattle.cob_body.proofs.Ends.{skip-fits}
use Rattle.cob_body.proofs.Parts.{face-ends, run_more}
use Rattle.cob_mesh.specs.declared.Corners.{Corners}
use Rattle.cob_mesh.specs.Laid.{Whole, FaceAt}

fits-some : (o : Option (List ℕ)) → fits o ≡ true → (left : List ℕ) × (o ≡ some left)
fits-some none h = absurd (false≢true h)
fits-some (some left) h = (left, refl)

module _ (s : List ℕ) (at : ℕ) where
  abbrev flags : ℕ
  flags = get_or s at 0

  abbrev corners : ℕ
  corners = value (take 2 (drop (at + 1) s))

  pub record Fits : Type 0 where
    pub start : at < length s
    pub count : Of 2 s (at + 1) corners
    pub room : at + 3 + (cond (hole flags) 0 2 + 8 * corners) ≤ length s

  starts : fits (face (drop at s)) ≡ true → at < length s
  starts h = go (ltb at (length s)) refl
    where
      go : (b : Bool) → ltb at (length s) ≡ b → at < length s
      go true e = ltb-true at (length s) e
      go false e =
          let n : fits (face []) ≡ true = rw (drop_of_length-le s {i = at} (ltb-false at (length s) e)) at h in
          absurd (false≢true n)

  pub fitting : fits (face (drop at s)) ≡ true → Fits
  fitting h =
      let l = starts h in
      let e : drop at s ≡ flags ∷ drop (at + 1) s = rw (add-one at) (drop-cons s at 0 l) in
      let t = drop (at + 1) s in
      let q = fits-some (counted 2 (λ n. skip (cond (hole flags) 0 2 + 8 * n)) t) (rw e at h) in
      let p = counted-left 2 (λ n. skip (cond (hole flags) 0 2 + 8 * n)) t q.0 q.1 in
      let g = and_parts (leb 2 (length t)) (not (negative 2 corners)) p.0 in
      let two = leb-true 2 (length t) g.0 in
      let k = (skip-left (cond (hole flags) 0 2 + 8 * corners) (drop 2 t) q.0 p.1).0 in
      record {
        start = l;
        count = record { good = p.0; is = refl; whole = omega (arith, length-drop (at + 1) s); small = leb-false _ _ (not-true (negative 2 corners) g.1) };
        room = omega (arith, length-drop (at + 1) s, length-drop 2 t);
      }

  behind-flags : (b : Bool) → at + 1 + cond b 2 4 ≡ at + 3 + cond b 0 2
  behind-flags true = omega arith
  behind-flags false = omega arith

  -- by whether it is a hole: its corners stand right behind the count, or behind the material
  pub face-is : Fits → (b : Bool) (p n : ℕ) → hole flags ≡ b → p ≡ at + 3 + cond b 0 2 → n ≡ corners → FaceAt s at record { hole = b; at = p; count = n }
  face-is f b p n e q r =
      let h : drop at s ≡ flags ∷ drop (at + 1) s = rw (add-one at) (drop-cons s at 0 f.start) in
      let z : at + 1 + cond b 2 4 ≡ p = behind-flags b ∙ sym q in
      let room : at + 3 + (cond b 0 2 + 8 * corners) ≤ length s = rw e at f.room in
      let y : at + 3 + (cond b 0 2 + 8 * corners) ≡ p + 8 * n = omega arith in
      record {
        is = rw (h, e, drop-drop (cond b 2 4) (at + 1) s, z, r);
        next = (face-ends f.start b (cond b 0 2 + 8 * corners) e refl f.count (skip-fits (cond b 0 2 + 8 * corners) s (at + 3) room)).is ∙
            ap (λ (k : ℕ). some (drop k s)) y;
        whole = omega arith;
        later = omega arith;
      }

-- ---- a run of faces

module _ {s : List ℕ} {o left : ℕ} (w : Whole s o left) (l : 0 < left) where
  pub first_fits : fits (face (drop o s)) ≡ true
  first_fits = rw (then_left face (face_run (left - 1)) (drop o s) [] (sym (run_more left (drop o s) l) ∙ w.run)).1

  pub rest-whole : {r : Corners} → FaceAt s o r → Whole s (r.at + 8 * r.count) (left - 1)
  rest-whole f = record { run = sym (run_more left (drop o s) l ∙ rw f.next) ∙ w.run; within = f.whole }

pub faces-more : {s : List ℕ} {o : ℕ} {r : Corners} (left : ℕ) → 0 < left → FaceAt s o r →
    faces_at left (drop o s) ≡ corners_at r.hole r.count (drop r.at s) ∷ faces_at (left - 1) (drop (r.at + 8 * r.count) s)
faces-more zero l f = absurd (omega arith)
faces-more (suc n) l f = let e : suc n - 1 ≡ n = omega arith in rw (e, f.is, f.next)
