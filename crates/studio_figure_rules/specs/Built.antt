-- The layout of a figure: 3D3D holds an AFFF for each material, then a 4000 for each object. Children of one parent stand
-- in the order of the table, those of one identifier as given.
use Rattle.std.specs.Prelude.{ℕ, List, [], ◌∷◌, ◌++◌, length}
use Rattle.shared_words.specs.Bytes.{le, packed}
use Rattle.studio_rules.specs.Layout.{Run, end, known}
use Rattle.studio_write_judge.specs.Judged.{triples}
use Rattle.studio_write_bytes.specs.Bare.{name_data, face_data}
use Rattle.studio_figure_rules.specs.Given.{Group, Object, Colour, Material, Figure, rgb}

-- ---- own data (a name's and a face list's are the bare figure's)

-- 4110: word n, then n times three floats
abbrev pub vertex_list : List ℕ → List ℕ
vertex_list vertices = le 2 (triples vertices) ++ packed 4 vertices

-- 4130: the name, word k, then k words
abbrev pub group_data : Group → List ℕ
group_data g = name_data g.name ++ (le 2 (length g.faces) ++ packed 2 g.faces)

-- ---- chunks, each in front of the rest of its run

-- one for each element
abbrev pub each : {A : Type 0} → (A → Run → Run) → List A → Run → Run
each chunk [] rest = rest
each chunk (x ∷ xs) rest = chunk x (each chunk xs rest)

abbrev pub group_chunk : Group → Run → Run
group_chunk g rest = known 0x4130 (group_data g) end rest

-- "none (then no 4150)"
abbrev pub smoothing_chunk : List ℕ → Run
smoothing_chunk [] = end
smoothing_chunk (w ∷ ws) = known 0x4150 (packed 4 (w ∷ ws)) end end

-- what stands in a 4120
abbrev pub face_children : Object → Run
face_children o = each group_chunk o.groups (smoothing_chunk o.smoothing)

-- what stands in a 4100
abbrev pub mesh_children : Object → Run
mesh_children o = known 0x4110 (vertex_list o.vertices) end (known 0x4120 (face_data o.corners) (face_children o) end)

abbrev pub object_chunk : Object → Run → Run
object_chunk o rest = known 0x4000 (name_data o.name) (known 0x4100 [] (mesh_children o) end) rest

abbrev pub colour_chunk : ℕ → Colour → Run → Run
colour_chunk id c rest = known id [] (known 0x0011 (rgb c) end end) rest

-- what stands in an AFFF
abbrev pub material_children : Material → Run
material_children m =
    known 0xA000 (name_data m.name) end
    (colour_chunk 0xA010 m.ambient
    (colour_chunk 0xA020 m.diffuse
    (colour_chunk 0xA030 m.specular end)))

abbrev pub material_chunk : Material → Run → Run
material_chunk m rest = known 0xAFFF [] (material_children m) rest

-- what stands in the 3D3D
abbrev pub scene : Figure → Run
scene f = each material_chunk f.materials (each object_chunk f.objects end)

-- A FIGURE: the children of its 4D4D
abbrev pub layout : Figure → Run
layout f = known 0x3D3D [] (scene f) end
