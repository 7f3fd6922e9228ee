-- Worked cases, each as one list under one statement: which fault of a figure is answered, which row does not fit, and two
-- figures written.
use Rattle.std.specs.Prelude.{◌≡◌, ℕ, List, [], ◌∷◌, ◌++◌, map, replicate, Ok}
use Rattle.shared_words.specs.Floats.{float}
use Rattle.shared_words.specs.Effects.{leaving}
use Rattle.studio_rules.specs.Samples.{triangle}
use Rattle.studio_figure_rules.specs.Given.{Group, Object, Colour, Material, Figure}
use Rattle.studio_figure_rules.specs.Judged.{judged_figure}
use Rattle.studio_figure_rules.specs.Write.{write_figure}
use Rattle.studio_figure_rules.specs.Described.{Flat, judged_flat, write_flat}
use Rattle.studio_write.specs.Samples.{Shown, no, size, shown, infinite, points}

-- ---- figures

abbrev pub object : List ℕ → List ℕ → List ℕ → List ℕ → List Group → Object
object name vertices corners smoothing groups =
    record { name = name; vertices = vertices; corners = corners; smoothing = smoothing; groups = groups }

abbrev pub group : List ℕ → List ℕ → Group
group name faces = record { name = name; faces = faces }

abbrev pub grey : ℕ → Colour
grey n = record { red = n; green = n; blue = n }

abbrev pub material : List ℕ → Material
material name = record { name = name; ambient = grey 1; diffuse = record { red = 2; green = 3; blue = 4 }; specular = grey 5 }

abbrev pub given : List Object → List Material → Figure
given objects materials = record { objects = objects; materials = materials }

-- names
abbrev pub a : List ℕ
a = 0x41 ∷ []

abbrev pub b : List ℕ
b = 0x42 ∷ []

-- an object without faces, and one with the triangle's
abbrev pub bare_object : List ℕ → Object
bare_object name = object name [] [] [] []

abbrev pub meshed : List ℕ → List ℕ → List Group → Object
meshed name smoothing groups = object name points (0 ∷ 1 ∷ 2 ∷ []) smoothing groups

-- a material B, and an object A whose one face has it, with a smoothing word
abbrev pub painted : Figure
painted = given (meshed a (7 ∷ []) (group b (0 ∷ []) ∷ []) ∷ []) (material b ∷ [])

-- ---- which fault is answered

-- a figure, how many bytes the buffer has, and the answer
pub record Case : Type 0 where
  pub of : Figure
  pub room : ℕ
  pub answer : Shown

abbrev pub gives : Figure → ℕ → Shown → Case
gives f room answer = record { of = f; room = room; answer = answer }

abbrev pub cases : List Case
cases =
    -- nothing at all; an object and a material of one name
    gives (given [] []) 12 (size 12) ∷
    gives (given (bare_object a ∷ []) (material a ∷ [])) 101 (size 101) ∷
    -- 9 in a material comes before 24 in an object
    gives (given (bare_object (0x41 ∷ 9 ∷ []) ∷ []) (material (0x41 ∷ 0 ∷ []) ∷ [])) 0 (no 9 1) ∷
    -- 24: the first bad byte, or 63; before 29
    gives (given (bare_object a ∷ bare_object (0x41 ∷ 0x7F ∷ []) ∷ bare_object a ∷ []) []) 0 (no 24 1) ∷
    gives (given (bare_object (replicate 63 0x41) ∷ bare_object (replicate 64 0x41) ∷ []) []) 0 (no 24 63) ∷
    -- 29: objects first, at the later; before 30
    gives (given (bare_object a ∷ bare_object b ∷ bare_object a ∷ []) (material a ∷ material a ∷ [])) 0 (no 29 2) ∷
    gives (given (meshed a [] (group a [] ∷ []) ∷ []) (material b ∷ material b ∷ [])) 0 (no 29 1) ∷
    -- 30: by nothing else is a group's name judged; the groups counted through the figure; before 13
    gives (given (meshed a [] (group (0x42 ∷ 0 ∷ []) [] ∷ []) ∷ []) (material b ∷ [])) 0 (no 30 0) ∷
    gives (given (meshed a (1 ∷ 2 ∷ []) (group b [] ∷ group b [] ∷ []) ∷ meshed b [] (group a [] ∷ []) ∷ []) (material b ∷ [])) 0 (no 30 2) ∷
    -- 13: the corners before the smoothing words, which come before 11; one word for no face
    gives (given (object a (infinite ∷ 0 ∷ 0 ∷ []) (0 ∷ 0 ∷ []) (1 ∷ []) [] ∷ []) []) 0 (no 13 2) ∷
    gives (given (object a (infinite ∷ 0 ∷ 0 ∷ []) [] (1 ∷ []) [] ∷ []) []) 0 (no 13 1) ∷
    -- 11 in the second object comes before 12 in the first
    gives (given (object a [] (0 ∷ 0 ∷ 0 ∷ []) [] [] ∷ object b (0 ∷ infinite ∷ 0 ∷ []) [] [] [] ∷ []) []) 0 (no 11 1) ∷
    -- 12: a face number in the first object comes before a corner in the second
    gives (given (meshed a [] (group b (0 ∷ 1 ∷ []) ∷ []) ∷ object b [] (0 ∷ 0 ∷ 0 ∷ []) [] [] ∷ []) (material b ∷ [])) 0 (no 12 1) ∷
    -- 15
    gives painted 166 (no 15 167) ∷ []

abbrev pub answered : Case → Shown
answered c = shown (judged_figure c.of c.room)

-- ---- the painted triangle

abbrev pub colour_bytes : ℕ → List ℕ → List ℕ
colour_bytes id rgb = id ∷ 0xA0 ∷ 15 ∷ 0 ∷ 0 ∷ 0 ∷ 0x11 ∷ 0 ∷ 9 ∷ 0 ∷ 0 ∷ 0 ∷ rgb

abbrev pub painted_bytes : List ℕ
painted_bytes =
    0x4D ∷ 0x4D ∷ 167 ∷ 0 ∷ 0 ∷ 0 ∷ 0x3D ∷ 0x3D ∷ 161 ∷ 0 ∷ 0 ∷ 0 ∷
    -- the material
    0xFF ∷ 0xAF ∷ 59 ∷ 0 ∷ 0 ∷ 0 ∷ 0x00 ∷ 0xA0 ∷ 8 ∷ 0 ∷ 0 ∷ 0 ∷ 0x42 ∷ 0 ∷
    (colour_bytes 0x10 (1 ∷ 1 ∷ 1 ∷ []) ++ (colour_bytes 0x20 (2 ∷ 3 ∷ 4 ∷ []) ++ (colour_bytes 0x30 (5 ∷ 5 ∷ 5 ∷ []) ++
    -- the object, its mesh and its vertices
    (0x00 ∷ 0x40 ∷ 96 ∷ 0 ∷ 0 ∷ 0 ∷ 0x41 ∷ 0 ∷ 0x00 ∷ 0x41 ∷ 88 ∷ 0 ∷ 0 ∷ 0 ∷ 0x10 ∷ 0x41 ∷ 44 ∷ 0 ∷ 0 ∷ 0 ∷ 3 ∷ 0 ∷
    0 ∷ 0 ∷ 0 ∷ 0 ∷ 0 ∷ 0 ∷ 0 ∷ 0 ∷ 0 ∷ 0 ∷ 0 ∷ 0 ∷
    0 ∷ 0 ∷ 0x80 ∷ 0x3F ∷ 0 ∷ 0 ∷ 0 ∷ 0 ∷ 0 ∷ 0 ∷ 0 ∷ 0 ∷
    0 ∷ 0 ∷ 0 ∷ 0 ∷ 0 ∷ 0 ∷ 0x80 ∷ 0x3F ∷ 0 ∷ 0 ∷ 0 ∷ 0 ∷
    -- its faces, their group and their smoothing words
    0x20 ∷ 0x41 ∷ 38 ∷ 0 ∷ 0 ∷ 0 ∷ 1 ∷ 0 ∷ 0 ∷ 0 ∷ 1 ∷ 0 ∷ 2 ∷ 0 ∷ 0 ∷ 0 ∷
    0x30 ∷ 0x41 ∷ 12 ∷ 0 ∷ 0 ∷ 0 ∷ 0x42 ∷ 0 ∷ 1 ∷ 0 ∷ 0 ∷ 0 ∷
    0x50 ∷ 0x41 ∷ 10 ∷ 0 ∷ 0 ∷ 0 ∷ 7 ∷ 0 ∷ 0 ∷ 0 ∷ []))))

-- the same, as rows
abbrev pub painted_rows : Flat
painted_rows = record {
  names = a ++ (b ++ b);
  objects = 1 ∷ 9 ∷ 3 ∷ 1 ∷ 1 ∷ [];
  vertices = map float points;
  corners = 0 ∷ 1 ∷ 2 ∷ [];
  smoothing = 7 ∷ [];
  groups = 1 ∷ 1 ∷ [];
  faces = 0 ∷ [];
  materials = 1 ∷ [];
  colours = 1 ∷ 1 ∷ 1 ∷ 2 ∷ 3 ∷ 4 ∷ 5 ∷ 5 ∷ 5 ∷ [];
}

-- rows of lengths, filled with zeros: names, objects, vertices, corners, smoothing, groups, faces, materials, colours
abbrev pub zeros : ℕ → List ℕ → ℕ → ℕ → ℕ → List ℕ → ℕ → List ℕ → ℕ → Flat
zeros names objects vertices corners smoothing groups faces materials colours = record {
  names = replicate names 0;
  objects = objects;
  vertices = map float (replicate vertices 0);
  corners = replicate corners 0;
  smoothing = replicate smoothing 0;
  groups = groups;
  faces = replicate faces 0;
  materials = materials;
  colours = replicate colours 0;
}

-- an object of 1 byte, 2 floats, 3 corners, 4 words, 1 group; a group of 5 bytes, 6 face numbers; a material of 7 bytes
abbrev pub misfits : List Flat
misfits =
    zeros 0 (1 ∷ 2 ∷ 3 ∷ 4 ∷ []) 0 0 0 (1 ∷ []) 0 [] 1 ∷
    zeros 0 (1 ∷ 2 ∷ 3 ∷ 4 ∷ 1 ∷ []) 0 0 0 (1 ∷ []) 0 [] 1 ∷
    zeros 0 (1 ∷ 2 ∷ 3 ∷ 4 ∷ 1 ∷ []) 0 0 0 (1 ∷ 1 ∷ 1 ∷ 1 ∷ []) 0 [] 1 ∷
    zeros 12 (1 ∷ 2 ∷ 3 ∷ 4 ∷ 1 ∷ []) 0 0 0 (5 ∷ 6 ∷ []) 0 (7 ∷ []) 1 ∷
    zeros 13 (1 ∷ 2 ∷ 3 ∷ 4 ∷ 1 ∷ []) 1 0 0 (5 ∷ 6 ∷ []) 0 (7 ∷ []) 1 ∷
    zeros 13 (1 ∷ 2 ∷ 3 ∷ 4 ∷ 1 ∷ []) 2 4 0 (5 ∷ 6 ∷ []) 0 (7 ∷ []) 1 ∷
    zeros 13 (1 ∷ 2 ∷ 3 ∷ 4 ∷ 1 ∷ []) 2 3 5 (5 ∷ 6 ∷ []) 0 (7 ∷ []) 1 ∷
    zeros 13 (1 ∷ 2 ∷ 3 ∷ 4 ∷ 1 ∷ []) 2 3 4 (5 ∷ 6 ∷ []) 0 (7 ∷ []) 1 ∷
    zeros 13 (1 ∷ 2 ∷ 3 ∷ 4 ∷ 1 ∷ []) 2 3 4 (5 ∷ 6 ∷ []) 6 (7 ∷ []) 10 ∷
    -- they fit, so that the figure is judged: 9
    zeros 13 (1 ∷ 2 ∷ 3 ∷ 4 ∷ 1 ∷ []) 2 3 4 (5 ∷ 6 ∷ []) 6 (7 ∷ []) 9 ∷ []

abbrev pub misfitted : List Shown
misfitted = no 13 4 ∷ no 13 1 ∷ no 13 4 ∷ no 13 12 ∷ no 13 1 ∷ no 13 4 ∷ no 13 5 ∷ no 13 0 ∷ no 13 10 ∷ no 9 0 ∷ []

pub record Samples : Type 0 where
  pub answers : map answered cases ≡ map (λ (c : Case). c.answer) cases
  pub triangle-again : write_figure (given (meshed a [] [] ∷ []) []) (replicate 87 9) ≡ leaving (Ok 86) (triangle ++ (9 ∷ []))
  pub painted-written : write_figure painted (replicate 168 9) ≡ leaving (Ok 167) (painted_bytes ++ (9 ∷ []))
  pub rows-misfit : map (λ r. shown (judged_flat r 0)) misfits ≡ misfitted
  pub rows_written : write_flat painted_rows (replicate 167 9) ≡ leaving (Ok 167) painted_bytes
