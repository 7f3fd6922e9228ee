-- What is wanted of each mesh, as it stands in a row of bytes: its eight numbers, or the nine of its box.
use Rattle.std.specs.Prelude.{List, map, ℕ}
use Rattle.studio_meshes_rules.specs.Standing.{Standing, mesh_in}
use Rattle.studio_meshes_rules.specs.Calls.{mesh_bytes}
use Rattle.studio_meshes_rules.specs.Boxes.{box_bytes}

abbrev pub numbers_of : List Standing → List ℕ
numbers_of ms = mesh_bytes.encode ms

abbrev pub boxes_of : List Standing → List ℕ
boxes_of ms = box_bytes.encode (map mesh_in ms)
