-- The boxes of all meshes of a figure in one call, nine floats each: what it answers and leaves in the lent row, for every file and
-- every row.
use Rattle.shared_words.specs.declared.Refusal.{Refusal}
use Rattle.std.specs.Prelude.{ℕ, ◌/◌, List, [], ◌∷◌, ◌++◌, map, replicate, Result, Ok, Err}
use Rattle.std.specs.Float.{binary32}
use Rattle.std.specs.Float.Ieee.{to_bits}
use Rattle.shared_words.specs.Bytes.{packed}
use Rattle.shared_words.specs.Effects.{Effect}
use Rattle.shared_words.specs.Encodings.{Encoding}
use Rattle.studio_rules.specs.declared.Boxed.{Boxed}
use Rattle.studio_rules.specs.declared.Corner.{Corner}
use Rattle.studio_rules.specs.declared.BoundingBox.{BoundingBox}
use Rattle.studio_rules.specs.Walk.{verdict}
use Rattle.studio_rules.specs.Gives.{Mesh, meshes}
use Rattle.studio_rules.specs.Calls.{around_of, all_of}
use Rattle.studio_meshes_rules.specs.Standing.{flattened}

-- the three coordinates of a corner
abbrev pub three : Corner → List ℕ
three c = map (to_bits binary32) (c.x ∷ c.y ∷ c.z ∷ [])

-- the low corner of a box, the high one, and the centre, as their bits
abbrev pub nine : BoundingBox → Corner → List ℕ
nine box centre = three box.low ++ (three box.high ++ three centre)

-- "a mesh without vertices has nine zeros"
abbrev pub box_numbers : Result Boxed Refusal → List ℕ
box_numbers (Ok b) = nine b.around b.centre
box_numbers (Err r) = replicate 9 0

-- those of a mesh
abbrev pub mesh_box : Mesh → List ℕ
mesh_box m = box_numbers (around_of m)

-- nine numbers each, four bytes a number
abbrev pub box_bytes : Encoding Mesh ℕ
box_bytes = record { room = λ n. n / 36; encode = λ ms. packed 4 (flattened mesh_box ms) }

unfoldable pub boxes_call : {A : Type 0} → Encoding Mesh A → List ℕ → List A → Effect (Result ℕ Refusal) (List A)
boxes_call e s row = all_of meshes e row (verdict s)
