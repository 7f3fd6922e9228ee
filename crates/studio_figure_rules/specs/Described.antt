-- A figure as C gives it: flat rows, and numbers that say how they are to be taken apart. When they fit, and which figure
-- they give.
use Rattle.std.specs.Prelude.{◌≡◌, ℕ, zero, suc, ◌+◌, ◌*◌, ◌/◌, ◌%◌, List, [], ◌∷◌, ◌++◌, map, eqb, Float, length, take, drop, get_or, Result, Err}
use Rattle.std.proofs.Math.Option.{none, some}
use Rattle.std.specs.Float.{binary32}
use Rattle.std.specs.Float.Ieee.{to_bits}
use Rattle.shared_words.specs.declared.Refusal.{Refusal}
use Rattle.shared_words.specs.declared.Refusal.TheVariants.{Count}
use Rattle.studio_rules.specs.Layout.{figure, bytes}
use Rattle.shared_words.specs.Conditions.{Condition, must, broken}
use Rattle.shared_words.specs.Effects.{Effect, leaving}
use Rattle.studio_write_judge.specs.Judged.{answer_of}
use Rattle.studio_write.specs.Write.{writing}
use Rattle.studio_figure_rules.specs.Given.{Group, Object, Colour, Material, Figure}
use Rattle.studio_figure_rules.specs.Built.{layout}
use Rattle.studio_figure_rules.specs.Judged.{size_of, conditions}
use Rattle.shared_words.specs.Lists.{total}
use Rattle.studio_figure_rules.specs.Write.{write_figure}

-- the rows; those of several objects, groups or materials stand one after another
pub record Flat : Type 0 where
  -- of the objects, of the materials, of the face groups
  pub names : List ℕ
  -- five numbers an object: bytes of its name, floats, corners, smoothing words, groups
  pub objects : List ℕ
  pub vertices : List Float
  pub corners : List ℕ
  pub smoothing : List ℕ
  -- two numbers a face group, in the order of the objects: bytes of its name, face numbers
  pub groups : List ℕ
  pub faces : List ℕ
  -- one number a material: bytes of its name
  pub materials : List ℕ
  -- nine bytes a material: ambient, diffuse, specular
  pub colours : List ℕ

-- ---- what the numbers say

pub record ObjectCounts : Type 0 where
  pub name : ℕ
  pub floats : ℕ
  pub corners : ℕ
  pub smoothing : ℕ
  pub groups : ℕ

pub record GroupCounts : Type 0 where
  pub name : ℕ
  pub faces : ℕ

abbrev pub object_counts : ℕ → List ℕ → List ObjectCounts
object_counts zero s = []
object_counts (suc n) s =
    record { name = get_or s 0 0; floats = get_or s 1 0; corners = get_or s 2 0; smoothing = get_or s 3 0; groups = get_or s 4 0 } ∷
    object_counts n (drop 5 s)

abbrev pub group_counts : ℕ → List ℕ → List GroupCounts
group_counts zero s = []
group_counts (suc n) s = record { name = get_or s 0 0; faces = get_or s 1 0 } ∷ group_counts n (drop 2 s)

abbrev pub objects_in : Flat → List ObjectCounts
objects_in r = object_counts (length r.objects / 5) r.objects

abbrev pub groups_in : Flat → List GroupCounts
groups_in r = group_counts (length r.groups / 2) r.groups

-- bytes of the names of all objects, materials and groups
abbrev pub object_name_bytes : Flat → ℕ
object_name_bytes r = total (λ (c : ObjectCounts). c.name) (objects_in r)

abbrev pub material_name_bytes : Flat → ℕ
material_name_bytes r = total (λ n. n) r.materials

abbrev pub group_name_bytes : Flat → ℕ
group_name_bytes r = total (λ (c : GroupCounts). c.name) (groups_in r)

-- ---- when they fit

-- 13, "where a row's length is not what the description says, the place being that row's length"
abbrev pub long_must : {A : Type 0} → List A → ℕ → Condition
long_must row n = must (eqb (length row) n) (Count (length row))

abbrev pub fit_conditions : Flat → List Condition
fit_conditions r =
    must (eqb (length r.objects % 5) 0) (Count (length r.objects)) ∷
    long_must r.groups (2 * total (λ (c : ObjectCounts). c.groups) (objects_in r)) ∷
    long_must r.names (object_name_bytes r + (material_name_bytes r + group_name_bytes r)) ∷
    long_must r.vertices (total (λ (c : ObjectCounts). c.floats) (objects_in r)) ∷
    long_must r.corners (total (λ (c : ObjectCounts). c.corners) (objects_in r)) ∷
    long_must r.smoothing (total (λ (c : ObjectCounts). c.smoothing) (objects_in r)) ∷
    long_must r.faces (total (λ (c : GroupCounts). c.faces) (groups_in r)) ∷
    long_must r.colours (9 * length r.materials) ∷ []

-- ---- the figure

abbrev pub groups_of : List GroupCounts → List ℕ → List ℕ → List Group
groups_of [] names faces = []
groups_of (c ∷ cs) names faces =
    record { name = take c.name names; faces = take c.faces faces } ∷ groups_of cs (drop c.name names) (drop c.faces faces)

-- three bytes
abbrev pub colour : List ℕ → Colour
colour s = record { red = get_or s 0 0; green = get_or s 1 0; blue = get_or s 2 0 }

abbrev pub materials_of : List ℕ → List ℕ → List ℕ → List Material
materials_of [] names colours = []
materials_of (n ∷ ns) names colours =
    record { name = take n names; ambient = colour colours; diffuse = colour (drop 3 colours); specular = colour (drop 6 colours) } ∷
    materials_of ns (drop n names) (drop 9 colours)

abbrev pub objects_of : List ObjectCounts → List ℕ → List ℕ → List ℕ → List ℕ → List Group → List Object
objects_of [] names vertices corners smoothing groups = []
objects_of (c ∷ cs) names vertices corners smoothing groups =
    record {
      name = take c.name names;
      vertices = take c.floats vertices;
      corners = take c.corners corners;
      smoothing = take c.smoothing smoothing;
      groups = take c.groups groups;
    } ∷
    objects_of cs (drop c.name names) (drop c.floats vertices) (drop c.corners corners) (drop c.smoothing smoothing) (drop c.groups groups)

-- the figure that the rows give
abbrev pub described : Flat → Figure
described r = record {
  objects =
      objects_of (objects_in r) r.names (map (to_bits binary32) r.vertices) r.corners r.smoothing
      (groups_of (groups_in r) (drop (object_name_bytes r + material_name_bytes r) r.names) r.faces);
  materials = materials_of r.materials (drop (object_name_bytes r) r.names) r.colours;
}

-- ---- the call

-- the rows first, "before all else"; then what they give
unfoldable pub judged_flat : Flat → ℕ → Result ℕ Refusal
judged_flat r room = answer_of (size_of (described r)) (broken (fit_conditions r ++ conditions (described r) room))

-- THE CALL, of rows
unfoldable pub write_flat : Flat → List ℕ → Effect (Result ℕ Refusal) (List ℕ)
write_flat r out = writing (bytes (figure (layout (described r)))) out (judged_flat r (length out))

-- Rows that do not fit are refused whatever they give, and rows that fit are written as the figure that they give.
pub record FitsFirst (r : Flat) (out : List ℕ) : Type 0 where
  pub misfit : (x : Refusal) → broken (fit_conditions r) ≡ some x → write_flat r out ≡ leaving (Err x) out
  pub fits : broken (fit_conditions r) ≡ none → write_flat r out ≡ write_figure (described r) out
