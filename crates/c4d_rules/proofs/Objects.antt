-- The materials of objects one behind the other.
use mathlib.Core.Path.{◌≡◌, refl, sym, ap, ◌∙◌}
use Prim.Native.Nat.{ℕ}
use mathlib.Core.List.{List, [], ◌∷◌, ◌++◌, append_assoc}
use Rattle.c4d_rules.specs.Gives.{Object}
use Rattle.c4d_rules.specs.Calls.{all_materials}

pub materials_append : (a b : List Object) → all_materials (a ++ b) ≡ all_materials a ++ all_materials b
materials_append [] b = refl
materials_append (r ∷ a) b = ap (λ (l : List ℕ). r.materials ++ l) (materials_append a b) ∙ sym (append_assoc r.materials (all_materials a) (all_materials b))
