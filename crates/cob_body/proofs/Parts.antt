-- Laws of `Ends` for a face, a run of faces, a map, and parts one after another.
use mathlib.Core.Path.{◌≡◌, refl, sym, ◌∙◌}
use Prim.Native.Nat.{ℕ, zero, suc, ◌+◌, ◌-◌, ◌*◌, ◌<◌, ◌≤◌}
use native.Mathlib.Omega.{arith}
use native.Mathlib.Nat.{one-mul}
use native.Mathlib.Numerals.{add-one}
use mathlib.Core.Bool.{Bool, true, false, cond, and-false}
use mathlib.Core.List.{List, [], ◌∷◌, ◌++◌}
use mathlib.Core.Option.{some}
use lib.Dec.{eqb}
use lib.ListN.{length, take, drop, get_or, length-drop, drop_of_length-le}
use lib.Seq.{drop-cons, drop-length}
use lib.Pointwise.{pointwise}
use borrow.Author.Tests.{eq-eqb, ne_eqb, eqb-true, eqb-false}
use Rattle.shared_words.specs.Bytes.{value}
use Rattle.shared_words.specs.Lists.{same}
use Rattle.cob_rules.specs.declared.Kind.{Kind}
use Rattle.cob_rules.specs.Kinds.{Part, optional, string, parts}
use Rattle.cob_rules.specs.Body.{and_then, skip, counted, hole, face, face_run, map_data, behind, behind_all}
use Rattle.cob_rules.proofs.Body.{behind_append}
use Rattle.std.specs.Prelude.{Option, Some, None}
use Rattle.cob_body.specs.Ends.{Ends, proper, Of}
use Rattle.cob_body.proofs.Ends.{between_earlier, all-ends, counted-ends, counted-not, then_ends, then_not}

-- ---- a face

pub face-none : (s : List ℕ) (i : ℕ) → length s ≤ i → Ends face s i None
face-none s i l = record { is = rw (drop_of_length-le s {i = i} l); within = tt }

module _ {s : List ℕ} {i : ℕ} (l : i < length s) where
  after-flags : {r : Option ℕ} → Ends (counted 2 (λ n. skip (cond (hole (get_or s i 0)) 0 2 + 8 * n))) s (i + 1) r → Ends face s i r
  after-flags {r} h = record {
    is = rw (drop-cons s i 0 l, ← (add-one i)) h.is;
    within = between_earlier i (i + 1) (length s) r (omega arith) h.within;
  }

  -- by whether it is a hole: then no material stands before its corners
  pub face-ends : {n : ℕ} {r : Option ℕ} (b : Bool) (k : ℕ) → hole (get_or s i 0) ≡ b → cond b 0 2 + 8 * n ≡ k → Of 2 s (i + 1) n → Ends (skip k) s (i + 3) r → Ends face s i r
  face-ends b k e q c h =
      let z : i + 1 + 2 ≡ i + 3 = omega arith in
      after-flags (counted-ends (λ m. skip (cond (hole (get_or s i 0)) 0 2 + 8 * m)) c (rw (e, q, z) h))

  pub face-bad : proper 2 (drop (i + 1) s) ≡ false → Ends face s i None
  face-bad b = after-flags (counted-not 2 (λ m. skip (cond (hole (get_or s i 0)) 0 2 + 8 * m)) s (i + 1) b)

-- ---- a run of faces: of n from i on, `left` are left from o on

pub record Passed (s : List ℕ) (i n o left : ℕ) : Type 0 where
  pub is : face_run n (drop i s) ≡ face_run left (drop o s)
  pub from : i ≤ o
  pub to : o ≤ length s

pub run_more : (n : ℕ) (s : List ℕ) → 0 < n → face_run n s ≡ and_then (face s) (face_run (n - 1))
run_more zero s l = absurd (omega arith)
run_more (suc n) s l = let e : suc n - 1 ≡ n = omega arith in rw e

module _ {s : List ℕ} {i n o left : ℕ} (p : Passed s i n o left) where
  pub run_on : {j : ℕ} → 0 < left → Ends face s o (Some j) → Passed s i n j (left - 1)
  run_on {j} l h = record { is = p.is ∙ run_more left (drop o s) l ∙ rw h.is; from = omega (arith, h.within.0, p.from); to = h.within.1 }

  pub run-stops : 0 < left → Ends face s o None → Ends (face_run n) s i None
  run-stops l h = record { is = p.is ∙ run_more left (drop o s) l ∙ rw h.is; within = tt }

  pub run_ends : left ≡ 0 → Ends (face_run n) s i (Some o)
  run_ends e = record { is = p.is ∙ rw e; within = (p.from, p.to) }

-- ---- a string, in a name and in a map

pub plain-string : {s : List ℕ} {i : ℕ} {r : Option ℕ} → Ends (behind string) s i r → Ends (counted 2 (λ n. skip n)) s i r
plain-string {s} {i} h = record { is = rw (one-mul (value (take 2 (drop i s)))) at h.is; within = h.within }

-- ---- a map

-- element by element
eqb-turned : (x y : ℕ) → eqb x y ≡ eqb y x
eqb-turned x y = go (eqb y x) refl
  where
    go : (b : Bool) → eqb y x ≡ b → eqb x y ≡ b
    go true e = eq-eqb x y (sym (eqb-true y x e))
    go false e = ne_eqb x y (λ q. eqb-false y x e (sym q))

-- what `starts_with` answers
pub by_element : (xs ys : List ℕ) → pointwise eqb xs ys ≡ same ys xs
by_element [] [] = refl
by_element [] (y ∷ ys) = refl
by_element (x ∷ xs) [] = refl
by_element (x ∷ xs) (y ∷ ys) = rw (eqb-turned x y, by_element xs ys)

module _ (s : List ℕ) (i letter k : ℕ) where
  abbrev pub here : Bool
  here = same (take 2 (drop i s)) (letter ∷ 0x3A ∷ [])

  pub map-not : i ≤ length s → here ≡ false → Ends (behind (optional letter k)) s i (Some i)
  map-not l e = record { is = rw e; within = (omega arith, l) }

  pub map-ends : {r : Option ℕ} → here ≡ true → Ends (map_data k) s i r → Ends (behind (optional letter k)) s i r
  map-ends e h = record { is = rw e h.is; within = h.within }

-- ---- parts one after another

module _ {s : List ℕ} {i : ℕ} where
  pub part-ends : (p : Part) (ps : List Part) {j : ℕ} {r : Option ℕ} → Ends (behind p) s i (Some j) → Ends (behind_all ps) s j r → Ends (behind_all (p ∷ ps)) s i r
  unfolding behind_all
  part-ends p ps a b = then_ends a b

  pub part-not : (p : Part) (ps : List Part) → Ends (behind p) s i None → Ends (behind_all (p ∷ ps)) s i None
  unfolding behind_all
  part-not p ps a = then_not (behind_all ps) a

  pub no-parts : i ≤ length s → Ends (behind_all []) s i (Some i)
  unfolding behind_all
  no-parts l = all-ends s i l

  pub last_part : (p : Part) (r : Option ℕ) → Ends (behind p) s i r → Ends (behind_all (p ∷ [])) s i r
  unfolding behind_all
  last_part p (Some j) h = then_ends h (all-ends s j h.within.1)
  last_part p None h = then_not some h

module _ {s : List ℕ} {i : ℕ} (ps qs : List Part) where
  pub parts-ends : {j : ℕ} {r : Option ℕ} → Ends (behind_all ps) s i (Some j) → Ends (behind_all qs) s j r → Ends (behind_all (ps ++ qs)) s i r
  parts-ends a b = let t = then_ends a b in record { is = behind_append ps qs (drop i s) ∙ t.is; within = t.within }

  pub parts-not : Ends (behind_all ps) s i None → Ends (behind_all (ps ++ qs)) s i None
  parts-not a = record { is = behind_append ps qs (drop i s) ∙ (then_not (behind_all qs) a).is; within = tt }

-- ---- by the kind that a test has found

pub of-kind : (k k' : Kind) {s : List ℕ} {r : Option ℕ} → k ≡ k' → Ends (behind_all (parts k')) s 0 r → Ends (behind_all (parts k)) s 0 r
of-kind k k' e h = rw e h

pub any-ends : (s : List ℕ) → Ends (behind_all (parts Kind.Other)) s 0 (Some (length s))
unfolding behind_all
any-ends s = record { is = rw (drop-length s); within = (omega arith, omega arith) }
