-- What is proved of the meshes where they stand, and of their boxes.
use Rattle.std.specs.Prelude.{◌≡◌, List, map, ℕ, ◌*◌, ◌<◌, take, drop, Ok, Err}
use Rattle.shared_words.specs.Bytes.{packed}
use Rattle.shared_words.specs.declared.Refusal.{Refusal}
use Rattle.shared_words.specs.declared.Refusal.TheVariants.{Empty}
use Rattle.studio_rules.specs.Layout.{Run}
use Rattle.studio_rules.specs.Gives.{meshes}
use Rattle.studio_rules.specs.Calls.{box_call}
use Rattle.studio_meshes_rules.specs.Standing.{mesh_in, standing}
use Rattle.studio_meshes_rules.specs.Boxes.{box_numbers, box_bytes, boxes_call}

-- They are the meshes that every other call is about, in the same order: so number i here is mesh i there.
abbrev pub SameMeshes : Type 0
SameMeshes = (kids : Run) → meshes kids ≡ map mesh_in (standing kids)

-- Box i of a row that was filled: its 36 bytes are the nine floats that the call about one box gives of mesh i, bit for bit; and
-- where they are zeros for want of a box, that call answers 17 and no other refusal.
pub record BoxAt (s row : List ℕ) (i : ℕ) : Type 0 where
  pub is : take 36 (drop (36 * i) (boxes_call box_bytes s row).rows) ≡ packed 4 (box_numbers (box_call s i))
  pub or_empty : (r : Refusal) → box_call s i ≡ Err r → r ≡ Empty

abbrev pub EachBox : Type 0
EachBox = (s row : List ℕ) (n : ℕ) → (boxes_call box_bytes s row).answer ≡ Ok n → (i : ℕ) → i < n → BoxAt s row i
