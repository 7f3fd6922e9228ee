-- Flat rows by position: where each object, group and material begins, as sums of the description's numbers. The same figure as
-- `described`, as code that goes through the rows meets it.
use Rattle.std.specs.Prelude.{◌≡◌, ℕ, zero, suc, ◌+◌, ◌*◌, ◌/◌, ◌≤◌, ◌<◌, List, [], ◌∷◌, map, Float, length, take, drop, get_or}
use Rattle.std.specs.Float.{binary32}
use Rattle.std.specs.Float.Ieee.{to_bits}
use Rattle.studio_figure_rules.specs.Given.{Group, Object, Material, Figure}
use Rattle.studio_figure_rules.specs.Described.{Flat, colour}

-- the rows by themselves
abbrev pub flat : List ℕ → List ℕ → List Float → List ℕ → List ℕ → List ℕ → List ℕ → List ℕ → List ℕ → Flat
flat names objects vertices corners smoothing groups faces materials colours = record {
  names = names;
  objects = objects;
  vertices = vertices;
  corners = corners;
  smoothing = smoothing;
  groups = groups;
  faces = faces;
  materials = materials;
  colours = colours;
}

-- number j of thing i, where each has k numbers
abbrev pub entry : ℕ → ℕ → List ℕ → ℕ → ℕ
entry k j s i = get_or s (k * i + j) 0

-- that of the first i things, added up
abbrev pub sum_to : ℕ → ℕ → List ℕ → ℕ → ℕ
sum_to k j s zero = 0
sum_to k j s (suc i) = sum_to k j s i + entry k j s i

-- n things, from number i on
abbrev pub run : {A : Type 0} → (ℕ → A) → ℕ → ℕ → List A
run thing i zero = []
run thing i (suc n) = thing i ∷ run thing (suc i) n

-- n elements of a row, from a position on
abbrev pub part : {A : Type 0} → ℕ → ℕ → List A → List A
part at n row = take n (drop at row)

-- the name of thing i, where the first begins at a position: the first number of each is the length of its name
abbrev pub name_at : ℕ → List ℕ → List ℕ → ℕ → ℕ → List ℕ
name_at k s names from i = part (from + sum_to k 0 s i) (entry k 0 s i) names

-- ---- how many things there are, and where their names begin

abbrev pub object_count : Flat → ℕ
object_count r = length r.objects / 5

abbrev pub group_count : Flat → ℕ
group_count r = length r.groups / 2

-- where the names of the materials begin, and those of the groups
abbrev pub materials_from : Flat → ℕ
materials_from r = sum_to 5 0 r.objects (object_count r)

abbrev pub groups_from : Flat → ℕ
groups_from r = materials_from r + sum_to 1 0 r.materials (length r.materials)

-- bytes of all names: of the objects, of the materials, of the groups
abbrev pub names_length : List ℕ → List ℕ → List ℕ → ℕ
names_length objects materials groups =
    sum_to 5 0 objects (length objects / 5) + sum_to 1 0 materials (length materials) + sum_to 2 0 groups (length groups / 2)

-- ---- each of them

abbrev pub group_at : Flat → ℕ → Group
group_at r g = record {
  name = name_at 2 r.groups r.names (groups_from r) g;
  faces = part (sum_to 2 1 r.groups g) (entry 2 1 r.groups g) r.faces;
}

abbrev pub object_at : Flat → ℕ → Object
object_at r i = record {
  name = name_at 5 r.objects r.names 0 i;
  vertices = map (to_bits binary32) (part (sum_to 5 1 r.objects i) (entry 5 1 r.objects i) r.vertices);
  corners = part (sum_to 5 2 r.objects i) (entry 5 2 r.objects i) r.corners;
  smoothing = part (sum_to 5 3 r.objects i) (entry 5 3 r.objects i) r.smoothing;
  groups = run (group_at r) (sum_to 5 4 r.objects i) (entry 5 4 r.objects i);
}

abbrev pub material_at : Flat → ℕ → Material
material_at r i = record {
  name = name_at 1 r.materials r.names (materials_from r) i;
  ambient = colour (drop (9 * i) r.colours);
  diffuse = colour (drop (9 * i + 3) r.colours);
  specular = colour (drop (9 * i + 6) r.colours);
}

-- the figure that the rows give, by position
abbrev pub figure_of : Flat → Figure
figure_of r = record { objects = run (object_at r) 0 (object_count r); materials = run (material_at r) 0 (length r.materials) }

-- ---- what a sum that is not followed beyond a cap tells of all that is added to what stood before
pub record Capped (before all cap sum : ℕ) : Type 0 where
  pub exact : sum ≤ cap → before + sum ≡ all
  pub past : cap < sum → before + cap < all
  pub within : sum ≤ cap + 4_294_967_295
