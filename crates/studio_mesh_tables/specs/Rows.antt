-- The rows of the tables, as the calls of crate studio_rules take them; one that is not asked for is empty.
use Rattle.std.specs.Prelude.{List, [], ℕ}
use Rattle.studio_rules.specs.declared.Sizes.{Sizes}
use Rattle.studio_rules.specs.Calls.{Rows}
use Rattle.studio_mesh_find.specs.declared.Place.{Place}

abbrev pub rows : {A B C : Type 0} → List A → List B → List C → Rows A B C
rows vertices corners mapping = record { vertices = vertices; corners = corners; mapping = mapping }

-- those of C: the vertices and corners, or the mapping
abbrev pub two_rows : List ℕ → List ℕ → Rows ℕ ℕ ℕ
two_rows vertices corners = rows vertices corners []

abbrev pub mapping_row : List ℕ → Rows ℕ ℕ ℕ
mapping_row mapping = rows [] [] mapping

-- how many vertices, faces and pairs the mesh at a place has
abbrev pub sizes_at : Place → Sizes
sizes_at place = record { vertices = place.vertices.count; faces = place.faces.count; pairs = place.mapping.pairs }
