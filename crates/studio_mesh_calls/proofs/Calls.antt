-- The name and the box, by what was asked.
use Rattle.std.specs.Prelude.{Ok, Err}
use mathlib.Core.Path.{◌≡◌, sym, ◌∙◌}
use mathlib.Core.List.{List}
use Prim.Native.Nat.{ℕ, ◌*◌}
use lib.ListN.{drop}
use borrow.Author.Tests.{eq-eqb, ne_eqb}
use Rattle.shared_words.specs.declared.Refusal.{Refusal}
use Rattle.shared_words.specs.declared.Refusal.TheVariants.{Empty}
use Rattle.studio_rules.specs.declared.Corner.{Corner}
use Rattle.studio_rules.specs.declared.BoundingBox.{BoundingBox}
use Rattle.shared_words.specs.Bytes.{numbers}
use Rattle.studio_rules.specs.Box.{bounding_box_of, centre_of}
use Rattle.studio_rules.specs.Walk.{verdict}
use Rattle.studio_rules.specs.Gives.{Mesh}
use Rattle.studio_rules.specs.Calls.{name_of, name_call, around_of, box_call, box_answer}
use Rattle.studio_mesh_find.specs.declared.Place.{Place}
use Rattle.studio_mesh_find.specs.Places.{PlaceIs}
use Rattle.studio_mesh_asked.specs.Choices.{no, yes, choose}
use Rattle.studio_mesh_asked.proofs.Choices.{any-refused, any-goes-on}

module _ (s : List ℕ) (mesh : ℕ) where
  module _ {r : Refusal} (e : choose yes mesh (verdict s) ≡ no r) where
    pub name-refused : Err r ≡ name_call s mesh
    unfolding name_call
    name-refused = sym (any-refused Err name_of mesh (verdict s) e)

    pub box-refused : Err r ≡ box_call s mesh
    unfolding box_call
    box-refused = sym (any-refused Err around_of mesh (verdict s) e)

  module _ {m : Mesh} (e : choose yes mesh (verdict s) ≡ yes m) where
    module _ {place : Place} (p : PlaceIs s m place) where
      pub name-goes-on : Ok record { offset = place.name; size = place.size } ≡ name_call s mesh
      unfolding name_call
      name-goes-on = rw (p.name-at, p.name-size) (sym (any-goes-on Err name_of mesh (verdict s) e))

      box-is : box_call s mesh ≡ around_of m
      unfolding box_call
      box-is = any-goes-on Err around_of mesh (verdict s) e

      pub box-empty : place.vertices.count ≡ 0 → Err Empty ≡ box_call s mesh
      box-empty z = sym (box-is ∙ rw (eq-eqb m.vertex_count 0 (sym p.vertex-count ∙ z)))

      pub box-goes-on : (place.vertices.count ≡ 0 → ⊥) → (b : BoundingBox) → b ≡ bounding_box_of place.vertices.count (numbers 4 (3 * place.vertices.count) (drop place.vertices.at s)) →
          (c : Corner) → c ≡ centre_of b → box_answer b c ≡ box_call s mesh
      box-goes-on n b f c g =
          let h : b ≡ bounding_box_of m.vertex_count m.vertices = f ∙ rw (p.vertices_are, ← p.vertex-count) in
          sym (box-is ∙ rw (ne_eqb m.vertex_count 0 (λ z. n (p.vertex-count ∙ z)), g, h))
