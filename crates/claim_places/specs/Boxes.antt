-- A BOX IS AROUND ITS MESH: of every box that a call answers, and of the vertices that the tables of that mesh hold.
use Rattle.std.specs.Prelude.{◌≡◌, List, ℕ}
use Rattle.std.proofs.Math.Option.{some}
use Rattle.std.proofs.Math.ListN.{get_elem?}
use Rattle.shared_words.specs.Bytes.{Bytes}
use Rattle.studio_rules.specs.declared.Corner.{Corner}
use Rattle.studio_rules.specs.declared.BoundingBox.{BoundingBox}
use Rattle.studio_rules.specs.Layout.{Run}
use Rattle.studio_rules.specs.Rules.{Meets}
use Rattle.studio_rules.specs.Gives.{Mesh, meshes}
use Rattle.studio_rules.specs.Box.{centre_of}
use Rattle.studio_rules.specs.Calls.{box_call, box_answer}
use Rattle.studio_mesh_box.specs.Around.{Around}

-- mesh number `number` of the file s, which meets the rules, and its box
pub record BoxOfMesh (s : List ℕ) (number : ℕ) (box : BoundingBox) (centre : Corner) : Type 0 where
  pub kids : Run
  pub meets : Meets s kids
  pub mesh : Mesh
  pub mesh-is : get_elem? (meshes kids) number ≡ some mesh
  -- each number is the smallest or largest of its axis, and among equal ones the first
  pub around : Around mesh.vertex_count mesh.vertices box
  pub centre_is : centre ≡ centre_of box

abbrev pub BoxesAround : Type 0
BoxesAround = (s : List ℕ) → Bytes s → (number : ℕ) (box : BoundingBox) (centre : Corner) → box_call s number ≡ box_answer box centre → BoxOfMesh s number box centre
