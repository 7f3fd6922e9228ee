-- What a mesh begins with, by offsets in its body: dupecount, name, axes, position, and the list of its vertices.
use mathlib.Core.Path.{◌≡◌, sym, ap, ◌∙◌}
use Prim.Native.Nat.{ℕ, ◌+◌, ◌*◌, ◌≤◌}
use native.Mathlib.Omega.{arith}
use mathlib.Core.Bool.{true, not}
use mathlib.Core.List.{List, [], ◌∷◌, ◌++◌}
use mathlib.Core.Option.{some, some-injective}
use lib.Dec.{leb}
use lib.ListN.{length, take, drop, length-drop}
use lib.Seq.{drop-drop}
use borrow.Author.Tests.{leb-true}
use Rattle.shared_words.specs.Bytes.{value, negative}
use Rattle.shared_words.proofs.Bools.{and_parts}
use Rattle.cob_rules.specs.declared.Kind.{Kind}
use Rattle.cob_rules.specs.Fields.{field}
use Rattle.cob_rules.specs.Kinds.{natural, string, plain, faces, group, vertices, textures, parts}
use Rattle.cob_rules.specs.Body.{Reading, skip, counted, behind, behind_all, exact}
use Rattle.cob_rules.specs.Mesh.{count_of}
use Rattle.cob_rules.proofs.Body.{skip-left, counted-left, then_left, nothing_left}

pub record Front (body : List ℕ) : Type 0 where
  pub behind_dupecount : behind_all (natural 2 ∷ []) body ≡ some (drop 2 body)
  pub behind_axes : behind_all (natural 2 ∷ string ∷ plain 48 ∷ []) body ≡ some (drop (52 + field 2 2 body) body)
  pub behind_position : behind_all group body ≡ some (drop (100 + field 2 2 body) body)
  pub vertices-whole : 100 + field 2 2 body + 4 + 12 * count_of (drop (100 + field 2 2 body) body) ≤ length body

-- what is left behind so many bytes, behind a count of two bytes and what it counts
module _ (s left : List ℕ) where
  two-there : (f : ℕ → Reading) → counted 2 f s ≡ some left → 2 ≤ length s
  two-there f h = leb-true 2 (length s) (and_parts (leb 2 (length s)) (not (negative 2 (value (take 2 s)))) (counted-left 2 f s left h).0).0

  behind-natural : behind (natural 2) s ≡ some left → (2 ≤ length s) × (left ≡ drop 2 s)
  behind-natural h = (two-there (λ k t. some t) h, sym (some-injective _ _ (counted-left 2 (λ k t. some t) s left h).1))

  behind-string : behind string s ≡ some left → (2 + value (take 2 s) ≤ length s) × (left ≡ drop (2 + value (take 2 s)) s)
  behind-string h =
      let e : 1 * value (take 2 s) ≡ value (take 2 s) = omega arith in
      let b = two-there (λ n. skip (1 * n)) h in
      let q = skip-left (value (take 2 s)) (drop 2 s) left (rw e at (counted-left 2 (λ n. skip (1 * n)) s left h).1) in
      (omega (arith, b, q.0, length-drop 2 s), sym q.1 ∙ drop-drop (value (take 2 s)) 2 s)

  behind-plain : behind (plain 48) s ≡ some left → (48 ≤ length s) × (left ≡ drop 48 s)
  behind-plain h = let q = skip-left 48 s left h in (q.0, sym q.1)

  behind-vertices : behind vertices s ≡ some left → 4 + 12 * count_of s ≤ length s
  behind-vertices h =
      let p = counted-left 4 (λ n. skip (12 * n)) s left h in
      let g = leb-true 4 (length s) (and_parts (leb 4 (length s)) (not (negative 4 (value (take 4 s)))) p.0).0 in
      omega (arith, g, (skip-left (12 * value (take 4 s)) (drop 4 s) left p.1).0, length-drop 4 s)

module _ (body : List ℕ) (h : exact Kind.PolH body ≡ true) where
  pub front : Front body
  unfolding behind_all
  front =
      let all = nothing_left (behind_all (parts Kind.PolH) body) h in
      let a = then_left (behind (natural 2)) (behind_all (string ∷ plain 48 ∷ plain 48 ∷ vertices ∷ textures ∷ faces ∷ [])) body [] all in
      let b = then_left (behind string) (behind_all (plain 48 ∷ plain 48 ∷ vertices ∷ textures ∷ faces ∷ [])) a.0 [] a.2 in
      let c = then_left (behind (plain 48)) (behind_all (plain 48 ∷ vertices ∷ textures ∷ faces ∷ [])) b.0 [] b.2 in
      let d = then_left (behind (plain 48)) (behind_all (vertices ∷ textures ∷ faces ∷ [])) c.0 [] c.2 in
      let e = then_left (behind vertices) (behind_all (textures ∷ faces ∷ [])) d.0 [] d.2 in
      let a' = behind-natural body a.0 a.1 in
      let b' = behind-string a.0 b.0 b.1 in
      let c' = behind-plain b.0 c.0 c.1 in
      let d' = behind-plain c.0 d.0 d.1 in
      let e' = behind-vertices d.0 e.0 e.1 in
      laid a.0 b.0 c.0 d.0 a.1 b.1 c.1 d.1 a'.1 b'.1 c'.1 d'.1 a'.0 b'.0 c'.0 d'.0 e'
    where
      laid : (s t u v : List ℕ) → behind (natural 2) body ≡ some s → behind string s ≡ some t → behind (plain 48) t ≡ some u → behind (plain 48) u ≡ some v →
          s ≡ drop 2 body → t ≡ drop (2 + value (take 2 s)) s → u ≡ drop 48 t → v ≡ drop 48 u →
          2 ≤ length body → 2 + value (take 2 s) ≤ length s → 48 ≤ length t → 48 ≤ length u → 4 + 12 * count_of v ≤ length v → Front body
      laid s t u v h₁ h₂ h₃ h₄ e₁ e₂ e₃ e₄ l₁ l₂ l₃ l₄ l₅ =
          let n : value (take 2 s) ≡ field 2 2 body = ap (λ (x : List ℕ). value (take 2 x)) e₁ in
          let four : 2 + (2 + field 2 2 body) ≡ 4 + field 2 2 body = omega arith in
          let axes : 4 + field 2 2 body + 48 ≡ 52 + field 2 2 body = omega arith in
          let position : 52 + field 2 2 body + 48 ≡ 100 + field 2 2 body = omega arith in
          let t-is : t ≡ drop (4 + field 2 2 body) body =
          e₂ ∙ ap (λ (k : ℕ). drop (2 + k) s) n ∙ ap (drop (2 + field 2 2 body)) e₁ ∙ drop-drop (2 + field 2 2 body) 2 body ∙ ap (λ (k : ℕ). drop k body) four in
          let u-is : u ≡ drop (52 + field 2 2 body) body = e₃ ∙ ap (drop 48) t-is ∙ drop-drop 48 (4 + field 2 2 body) body ∙ ap (λ (k : ℕ). drop k body) axes in
          let v-is : v ≡ drop (100 + field 2 2 body) body = e₄ ∙ ap (drop 48) u-is ∙ drop-drop 48 (52 + field 2 2 body) body ∙ ap (λ (k : ℕ). drop k body) position in
          record {
            behind_dupecount = rw h₁ (ap some e₁);
            behind_axes = rw (h₁, h₂, h₃) (ap some u-is);
            behind_position = rw (h₁, h₂, h₃, h₄) (ap some v-is);
            vertices-whole = omega (
              arith,
              ap length e₁,
              ap length e₂,
              ap length e₃,
              ap length e₄,
              length-drop 2 body,
              length-drop (2 + value (take 2 s)) s,
              length-drop 48 t,
              length-drop 48 u,
              ap count_of v-is,
            );
          }
