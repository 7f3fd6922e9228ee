-- The vertices of every mesh of a file that meets the rules are finite, so what is proved of boxes is true of each that a call answers.
use mathlib.Core.Path.{◌≡◌, refl, sym, ap, subst, ◌∙◌}
use mathlib.Core.Bool.{Bool, true, false, cond}
use mathlib.Core.List.{List, [], ◌∷◌}
use Prim.Native.Nat.{ℕ, ◌+◌, ◌-◌, ◌*◌, ◌<◌}
use native.Mathlib.Omega.{arith}
use lib.Dec.{eqb}
use lib.ListN.{length, drop}
use borrow.Author.Tests.{eqb-false}
use Rattle.shared_words.specs.declared.Refusal.{Refusal}
use Rattle.shared_words.specs.declared.Refusal.TheVariants.{Empty}
use Rattle.shared_words.specs.Lists.{every, All}
use Rattle.shared_words.specs.Floats.{finite}
use Rattle.shared_words.proofs.Lists.{all_append}
use Rattle.shared_words.proofs.Numbers.{length-numbers}
use Rattle.studio_rules.specs.declared.Corner.{Corner}
use Rattle.studio_rules.specs.declared.BoundingBox.{BoundingBox}
use Rattle.studio_rules.specs.OwnData.{count}
use Rattle.studio_rules.specs.Layout.{Run, end, skip, known, figure, size, child}
use Rattle.studio_rules.specs.Rules.{Parent, inside, file, version, Obeys, Meets}
use Rattle.studio_rules.specs.Gives.{Mesh, one_mesh, mesh_of, meshes_of, meshes}
use Rattle.studio_rules.specs.Box.{bounding_box_of, centre_of}
use Rattle.studio_rules.specs.Calls.{around_of, box_call, box_answer}
use Rattle.studio_mesh_find.proofs.Parts.{vertices-finite}
use Rattle.studio_mesh_box.specs.Around.{Around}
use Rattle.studio_mesh_box.proofs.Around.{box-is-around}
use Rattle.claim_places.specs.Boxes.{BoxesAround}
use Rattle.claim_places.proofs.Names.{picked, mesh-found}
use Rattle.std.specs.Prelude.{Err, Result}
use Rattle.studio_rules.specs.declared.Boxed.{Boxed}

-- three finite numbers a vertex
pub record Drawn (m : Mesh) : Type 0 where
  pub three-each : length m.vertices ≡ 3 * m.vertex_count
  pub all-finite : every finite m.vertices ≡ true

meshes_drawn : (p : Parent) (seen : List ℕ) (at name_at name_length : ℕ) (t : Run) → Obeys p seen t → All Drawn (meshes_of at name_at name_length t)
meshes_drawn p seen at name_at name_length end o = tt
meshes_drawn p seen at name_at name_length (skip id body rest) o = meshes_drawn p seen (at + (6 + length body)) name_at name_length rest o.1
meshes_drawn p seen at name_at name_length (known id own kids rest) o =
    all_append Drawn (one_mesh (eqb id 0x4100) (mesh_of name_at name_length kids)) _ (one (eqb id 0x4100))
    (all_append Drawn (meshes_of (at + (6 + length own)) (at + 6) (length own - 1) kids) _
    (meshes_drawn (inside p seen id own) [] (at + (6 + length own)) (at + 6) (length own - 1) kids o.2)
    (meshes_drawn p (id ∷ seen) (at + (6 + length own + size kids)) name_at name_length rest o.3))
  where
    one : (b : Bool) → All Drawn (one_mesh b (mesh_of name_at name_length kids))
    one false = tt
    one true = (
      record {
        three-each = length-numbers 4 (3 * count (child 0x4110 kids)) (drop 2 (child 0x4110 kids));
        all-finite = vertices-finite (inside p seen id own) [] kids o.2;
      },
      tt,
    )

pub all_drawn : (s : List ℕ) (kids : Run) → Meets s kids → All Drawn (meshes kids)
all_drawn s kids m = meshes_drawn (file (version kids)) [] 0 0 0 (figure kids) m.chunks

-- an answer that is a box is that of the mesh, which has vertices
box_of : (m : Mesh) (box : BoundingBox) (centre : Corner) → around_of m ≡ box_answer box centre →
    (0 < m.vertex_count) × (bounding_box_of m.vertex_count m.vertices ≡ box) × (centre ≡ centre_of box)
box_of m box centre h = go (eqb m.vertex_count 0) refl h
  where
    b : BoundingBox
    b = bounding_box_of m.vertex_count m.vertices

    same : box_answer b (centre_of b) ≡ box_answer box centre → (b ≡ box) × (centre_of b ≡ centre)
    same e =
        let r : ◌≡◌ {A = Boxed} record { around = b; centre = centre_of b } record { around = box; centre = centre } = cc in
        (ap (λ (x : Boxed). x.around) r, ap (λ (x : Boxed). x.centre) r)

    go : (t : Bool) → eqb m.vertex_count 0 ≡ t → cond t (Err Empty) (box_answer b (centre_of b)) ≡ box_answer box centre →
        (0 < m.vertex_count) × (b ≡ box) × (centre ≡ centre_of box)
    go true e q = let z : ◌≡◌ {A = ℕ} 0 1 = cc in absurd (omega arith)
    go false e q =
        let n = eqb-false m.vertex_count 0 e in
        let k = same q in
        (omega (arith, n), k.0, sym k.1 ∙ ap centre_of k.0)

pub boxes_around : BoxesAround
unfolding box_call
boxes_around s b number box centre h =
    let f = mesh-found s b Err around_of number (box_answer box centre) never h in
    let m = f.2 in
    let d = picked Drawn (meshes f.0) number m.0 (all_drawn s f.0 f.1) m.1 in
    let k = box_of m.0 box centre m.2 in
    record {
      kids = f.0;
      meets = f.1;
      mesh = m.0;
      mesh-is = m.1;
      around = subst (Around m.0.vertex_count m.0.vertices) k.1 (box-is-around m.0.vertex_count m.0.vertices k.0 d.three-each d.all-finite);
      centre_is = k.2;
    }
  where
    never : (r : Refusal) → ◌≡◌ {A = Result Boxed Refusal} (Err r) (box_answer box centre) → ⊥
    never r e = let z : ◌≡◌ {A = ℕ} 0 1 = cc in omega arith
