-- What is wanted of meshes stands one behind another.
use mathlib.Core.Path.{◌≡◌, ap, ◌∙◌}
use mathlib.Core.List.{List, ◌++◌, map, map-append}
use Rattle.shared_words.specs.Bytes.{packed}
use Rattle.shared_words.proofs.Bytes.{packed_append}
use Rattle.studio_rules.specs.Gives.{Mesh}
use Rattle.studio_meshes_rules.specs.Standing.{Standing, mesh_in, flattened, mesh_numbers}
use Rattle.studio_meshes_rules.specs.Boxes.{mesh_box}
use Rattle.studio_meshes_rules.proofs.Few.{flat_append}
use Rattle.studio_meshes.specs.Wanted.{numbers_of, boxes_of}

pub numbers_append : (ms ns : List Standing) → numbers_of (ms ++ ns) ≡ numbers_of ms ++ numbers_of ns
numbers_append ms ns = ap (packed 4) (flat_append mesh_numbers ms ns) ∙ packed_append 4 (flattened mesh_numbers ms) (flattened mesh_numbers ns)

pub boxes_append : (ms ns : List Standing) → boxes_of (ms ++ ns) ≡ boxes_of ms ++ boxes_of ns
boxes_append ms ns =
    ap (λ (x : List Mesh). packed 4 (flattened mesh_box x)) (map-append mesh_in ms ns) ∙
    ap (packed 4) (flat_append mesh_box (map mesh_in ms) (map mesh_in ns)) ∙
    packed_append 4 (flattened mesh_box (map mesh_in ms)) (flattened mesh_box (map mesh_in ns))
