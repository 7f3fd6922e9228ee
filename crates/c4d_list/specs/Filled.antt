-- What the pass that fills the rows is given, and what it leaves in them.
use Rattle.std.specs.Prelude.{◌≡◌, ℕ, ◌*◌, ◌≤◌, List, ◌++◌, length}
use Rattle.shared_words.specs.Bytes.{packed}
use Rattle.shared_words.specs.Effects.{filled}
use Rattle.shared_words.specs.Lists.{All}
use Rattle.c4d_rules.specs.Gives.{Object}
use Rattle.c4d_rules.specs.Calls.{all_materials, flat}
use Rattle.c4d_objects.specs.Notes.{all_notes, Small}

-- objects have been noted, and there is room for them
pub record Fillable (notes : List ℕ) (count object_bytes material_bytes : ℕ) : Type 0 where
  pub objects : List Object
  pub rest : List ℕ
  pub are : notes ≡ all_notes objects ++ rest
  pub each_small : All Small objects
  pub count-is : count ≡ length objects
  pub objects-room : 12 * count ≤ object_bytes
  pub materials_room : 4 * length (all_materials objects) ≤ material_bytes

pub record FilledWith (rs : List Object) (objects materials objects' materials' : List ℕ) : Type 0 where
  pub objects_are : objects' ≡ filled (packed 4 (flat rs)) objects
  pub materials_are : materials' ≡ filled (packed 4 (all_materials rs)) materials

abbrev pub FilledIs : List ℕ → ℕ → List ℕ → List ℕ → List ℕ → List ℕ → Type 0
FilledIs notes count objects materials objects' materials' =
    (g : Fillable notes count (length objects) (length materials)) → FilledWith g.objects objects materials objects' materials'
