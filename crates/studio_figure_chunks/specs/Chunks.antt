-- The chunks of a figure, as code puts them: each of what stands in the rows.
use Rattle.std.specs.Prelude.{ℕ, ◌+◌, ◌-◌, ◌*◌, List, ◌++◌, Float, length, drop}
use Rattle.studio_rules.specs.Layout.{end, known, header, bytes}
use Rattle.studio_write_judge.specs.Judged.{triples}
use Rattle.studio_write_bytes.specs.Bare.{name_data, vertex_data, face_data}
use Rattle.studio_figure_rules.specs.Given.{Group, Material}
use Rattle.studio_figure_rules.specs.Built.{group_chunk, material_chunk}
use Rattle.studio_figure_rules.specs.Described.{colour}
use Rattle.studio_figure_rows.specs.Rows.{entry, sum_to, part, name_at}

-- a material, and a group, by themselves
abbrev pub material_bytes : Material → List ℕ
material_bytes m = bytes (material_chunk m end)

abbrev pub group_bytes : Group → List ℕ
group_bytes g = bytes (group_chunk g end)

-- material i, where its name is known
abbrev pub material_with : List ℕ → List ℕ → ℕ → Material
material_with name colours i = record {
  name = name;
  ambient = colour (drop (9 * i) colours);
  diffuse = colour (drop (9 * i + 3) colours);
  specular = colour (drop (9 * i + 6) colours);
}

abbrev pub material_in : List ℕ → List ℕ → List ℕ → ℕ → ℕ → Material
material_in names materials colours from i = material_with (name_at 1 materials names from i) colours i

abbrev pub group_of : List ℕ → List ℕ → Group
group_of name faces = record { name = name; faces = faces }

-- group g, where the names of all groups begin at a position
abbrev pub group_in : List ℕ → List ℕ → List ℕ → ℕ → ℕ → Group
group_in names groups faces from g = group_of (name_at 2 groups names from g) (part (sum_to 2 1 groups g) (entry 2 1 groups g) faces)

-- what stands of an object before its face groups, where the object has n bytes
abbrev pub lists_bytes : List ℕ → List Float → List ℕ → ℕ → List ℕ
lists_bytes name vertices corners n =
    header 0x4000 n ++ (name_data name ++ (header 0x4100 (n - (7 + length name)) ++
    (bytes (known 0x4110 (vertex_data vertices) end end) ++ (header 0x4120 (n - (21 + length name + 12 * triples vertices)) ++ face_data corners))))
