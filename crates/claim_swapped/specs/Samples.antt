-- A worked case: two meshes with an unlisted chunk between them; the first goes behind both. What is said of it stands in
-- proofs/Samples, since its swaps are records of the definitions in Swapped.
use Rattle.std.specs.Prelude.{ℕ, List, [], ◌∷◌, map}
use Rattle.studio_rules.specs.Layout.{Run, end, skip, ◌then◌}
use Rattle.studio_rules.specs.Readings.{mesh, vertex}
use Rattle.shared_words.specs.Conditions.{Answer, refused, accepted}
use Rattle.studio_rules.specs.Gives.{Mesh, meshes}

-- a mesh with a vertex at 1.0, and one at 2.0; an unlisted chunk
abbrev pub near : Run
near = mesh (vertex 0x3F80_0000)

abbrev pub far : Run
far = mesh (vertex 0x4000_0000)

abbrev pub note : Run
note = skip 0x8123 (1 ∷ 2 ∷ []) end

abbrev pub was : Run
was = near then note then far

abbrev pub is : Run
is = note then far then near

-- the vertices of each mesh
abbrev pub vertices_in : Answer Run → List (List ℕ)
vertices_in (refused r) = []
vertices_in (accepted kids) = map (λ (m : Mesh). m.vertices) (meshes kids)
