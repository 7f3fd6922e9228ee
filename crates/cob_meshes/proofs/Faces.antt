-- The faces among faces and holes, one more of them; and a body's numbers.
use mathlib.Core.Path.{◌≡◌, refl, sym, ap, ◌∙◌}
use Prim.Native.Nat.{ℕ, ◌+◌, ◌-◌, ◌*◌, ◌<◌, ◌≤◌}
use native.Mathlib.Omega.{arith}
use mir.Val.{bool_byte}
use mathlib.Core.Bool.{Bool, true, false, not, cond}
use mathlib.Core.List.{List}
use lib.ListN.{length, drop, length-drop}
use Rattle.shared_numbers.specs.Numbers.{long_at}
use Rattle.cob_rules.specs.declared.Kind.{Kind}
use Rattle.cob_rules.specs.Fields.{field}
use Rattle.cob_rules.specs.Body.{exact}
use Rattle.cob_rules.specs.Mesh.{faces_at, faces_of, triangles}
use Rattle.cob_rules.specs.Gives.{mesh_in}
use Rattle.cob_mesh.specs.declared.Lists.{Lists}
use Rattle.cob_mesh.specs.declared.Corners.{Corners}
use Rattle.cob_mesh.specs.Laid.{Whole, Laid, FaceAt}
use Rattle.cob_mesh.proofs.Faces.{rest-whole, faces-more}
use Rattle.cob_mesh.proofs.Below.{faces_are}
use Rattle.cob_tables.proofs.Faces.{one-most}
use Rattle.cob_meshes_rules.specs.Standing.{face_count, mesh_numbers}
use Rattle.cob_meshes_rules.proofs.Front.{front}
use Rattle.cob_meshes.specs.declared.Numbers.{Numbers}
use Rattle.cob_meshes.specs.Meshes.{numbers_of}

-- ---- counted

pub record Counted (s : List ℕ) (at count o left n : ℕ) : Type 0 where
  pub is : face_count (faces_at count (drop at s)) ≡ n + face_count (faces_at left (drop o s))
  pub whole : Whole s o left
  pub few : n + left ≤ count

pub count-more : {s : List ℕ} {at count o left n : ℕ} {r : Corners} → Counted s at count o left n → 0 < left → FaceAt s o r → Counted s at count (r.at + 8 * r.count) (left - 1) (n + bool_byte (not r.hole))
count-more {left = left} {r = r} c l f = record {
  is = c.is ∙ omega (arith, ap face_count (faces-more left l f), unless r.hole);
  whole = rest-whole c.whole l f;
  few = omega (arith, c.few, one-most (not r.hole));
}
  where
    unless : (hole : Bool) → bool_byte (not hole) ≡ cond hole 0 1
    unless true = refl
    unless false = refl

pub counted-all : {s : List ℕ} {at count o left n : ℕ} → Counted s at count o left n → left ≡ 0 → n ≡ face_count (faces_at count (drop at s))
counted-all c e = sym (c.is ∙ rw e (omega arith))

-- ---- the numbers of a body

module _ {body : List ℕ} {l : Lists} (h : exact Kind.PolH body ≡ true) (d : Laid body l) where
  pub vertices-at : l.vertices ≡ 100 + field 2 2 body
  vertices-at =
      let e : drop l.vertices body ≡ drop (100 + field 2 2 body) body = sym d.vertices-at ∙ rw (front body h).behind_position in
      omega (arith, ap length e, length-drop l.vertices body, length-drop (100 + field 2 2 body) body, d.vertices-whole, (front body h).vertices-whole)

  pub vertices-counted : (mesh_in body).vertex_count ≡ long_at body l.vertices
  unfolding long_at
  vertices-counted = rw d.vertices-at

  pub faces-whole : {n : ℕ} → n ≡ long_at body l.faces → Whole body (l.faces + 4) n
  unfolding long_at
  faces-whole e = rw e d.faces-whole

  module _ {count : ℕ} (c : count ≡ long_at body l.faces) where
    faces_in : faces_of body ≡ faces_at count (drop (l.faces + 4) body)
    faces_in = faces_are d ∙ rw c

    pub numbers_are : (at number : ℕ) (r : Numbers) → r.name ≡ at + 24 → r.size ≡ l.vertices - 100 → r.position ≡ at + 20 + l.vertices + 4 - 52 → r.vertices ≡ long_at body l.vertices →
        r.floats ≡ at + 20 + l.vertices + 4 → r.faces ≡ face_count (faces_at count (drop (l.faces + 4) body)) →
        r.given ≡ length (triangles (faces_at count (drop (l.faces + 4) body))) → r.record ≡ number →
        numbers_of r ≡ mesh_numbers record { at = at; number = number; body = body }
    numbers_are at number r e₁ e₂ e₃ e₄ e₅ e₆ e₇ e₈ =
        let v = vertices-at in
        let n₂ : r.size ≡ field 2 2 body = omega arith in
        let n₃ : r.position ≡ at + 24 + field 2 2 body + 48 = omega arith in
        let n₄ : r.vertices ≡ (mesh_in body).vertex_count = e₄ ∙ sym vertices-counted in
        let n₅ : r.floats ≡ at + 24 + field 2 2 body + 48 + 52 = omega arith in
        let n₆ : r.faces ≡ face_count (faces_of body) = e₆ ∙ ap face_count (sym faces_in) in
        let n₇ : r.given ≡ (mesh_in body).face_count = e₇ ∙ ap (λ (fs : List _). length (triangles fs)) (sym faces_in) in
        rw (e₁, n₂, n₃, n₄, n₅, n₆, n₇, e₈)
