-- Where the lists of a body stand that fits its parts exactly.
use mathlib.Core.Path.{◌≡◌, refl, sym, ap, ◌∙◌}
use Prim.Native.Nat.{ℕ, ◌+◌, ◌*◌, ◌≤◌}
use native.Mathlib.Omega.{arith}
use mathlib.Core.Bool.{true, not}
use mathlib.Core.List.{List, [], ◌∷◌, ◌++◌}
use mathlib.Core.Option.{some, none-ne-some}
use lib.Dec.{leb}
use lib.ListN.{length, take, drop, length-drop}
use lib.Seq.{drop-drop}
use borrow.Author.Tests.{leb-true}
use Rattle.shared_words.specs.Bytes.{value, negative}
use Rattle.shared_words.proofs.Bools.{and_parts}
use Rattle.cob_rules.specs.declared.Kind.{Kind}
use Rattle.cob_rules.specs.Kinds.{Part, times, faces, group, vertices, textures, parts}
use Rattle.cob_rules.specs.Body.{skip, face_run, behind, behind_all, exact}
use Rattle.cob_rules.specs.Mesh.{count_of}
use Rattle.cob_rules.proofs.Body.{skip-left, counted-left, then_left, nothing_left}
use Rattle.std.specs.Prelude.{Option, Some, None, IsSome}
use Rattle.cob_body.specs.Ends.{Ends}
use Rattle.cob_rules.proofs.Body.{behind_append}
use Rattle.cob_mesh.specs.Laid.{Whole, Laid}

module _ (body : List ℕ) (h : exact Kind.PolH body ≡ true) where
  all-parts : behind_all (parts Kind.PolH) body ≡ some []
  all-parts = nothing_left (behind_all (parts Kind.PolH) body) h

  -- the parts that it begins with fit
  front_fits : (ps qs : List Part) → parts Kind.PolH ≡ ps ++ qs → Ends (behind_all ps) body 0 None → ⊥
  front_fits ps qs e n =
      none-ne-some [] (sym (behind_append ps qs body ∙ rw n.is) ∙ ap (λ (l : List Part). behind_all l body) (sym e) ∙ all-parts)

  pub front_some : (ps qs : List Part) (r : Option ℕ) → parts Kind.PolH ≡ ps ++ qs → Ends (behind_all ps) body 0 r → IsSome r
  front_some ps qs (Some j) e n = refl
  front_some ps qs None e n = absurd (front_fits ps qs e n)

-- what follows some parts
rest-is : (ps qs : List Part) (body : List ℕ) (v : ℕ) (left : List ℕ) → Ends (behind_all ps) body 0 (Some v) →
    behind_all (ps ++ qs) body ≡ some left → behind_all qs (drop v body) ≡ some left
rest-is ps qs body v left a b = sym (behind_append ps qs body ∙ rw a.is) ∙ b

one-part : (p : Part) (s left : List ℕ) → behind_all (p ∷ []) s ≡ some left → behind p s ≡ some left
unfolding behind_all
one-part p s left h = let q = then_left (behind p) some s left h in q.1 ∙ q.2

-- a list is whole
list-whole : (k : ℕ) (body : List ℕ) (v : ℕ) (left : List ℕ) → behind_all (times 4 k ∷ []) (drop v body) ≡ some left → v ≤ length body →
    v + 4 + k * count_of (drop v body) ≤ length body
list-whole k body v left h l =
    let s = drop v body in
    let p = counted-left 4 (λ n. skip (k * n)) s left (one-part (times 4 k) s left h) in
    let g = leb-true 4 (length s) (and_parts (leb 4 (length s)) (not (negative 4 (value (take 4 s)))) p.0).0 in
    let q = (skip-left (k * value (take 4 s)) (drop 4 s) left p.1).0 in
    omega (arith, length-drop v body, length-drop 4 s)

run-whole : (body : List ℕ) (f : ℕ) → behind_all (faces ∷ []) (drop f body) ≡ some [] → f ≤ length body → Whole body (f + 4) (count_of (drop f body))
run-whole body f h l =
    let s = drop f body in
    let p = counted-left 4 face_run s [] (one-part faces s [] h) in
    let g = leb-true 4 (length s) (and_parts (leb 4 (length s)) (not (negative 4 (value (take 4 s)))) p.0).0 in
    record { run = rw (← (drop-drop 4 f body)) p.1; within = omega (arith, length-drop f body) }

pub laid : (body : List ℕ) → exact Kind.PolH body ≡ true → {v t f : ℕ} → Ends (behind_all group) body 0 (Some v) →
    Ends (behind_all (group ++ (vertices ∷ []))) body 0 (Some t) → Ends (behind_all (group ++ (vertices ∷ textures ∷ []))) body 0 (Some f) →
    Laid body record { vertices = v; textures = t; faces = f }
laid body h {v} {t} {f} a b c = record {
  vertices-at = rw a.is;
  vertices-whole = list-whole 12 body v (drop t body) (rest-is group (vertices ∷ []) body v (drop t body) a b.is) a.within.1;
  textures-at = rw b.is;
  textures-whole = list-whole 8 body t (drop f body) (rest-is (group ++ (vertices ∷ [])) (textures ∷ []) body t (drop f body) b c.is) b.within.1;
  faces-at = rw c.is;
  faces-whole = run-whole body f (rest-is (group ++ (vertices ∷ textures ∷ [])) (faces ∷ []) body f [] c (all-parts body h)) c.within.1;
}
