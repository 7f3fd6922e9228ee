-- The meshes of a figure where they stand in its file, and what a viewer is told of each: eight numbers.
use Rattle.std.specs.Prelude.{ℕ, ◌+◌, ◌-◌, Bool, true, false, cond, List, [], ◌∷◌, ◌++◌, eqb, length}
use Rattle.shared_words.specs.Lists.{among}
use Rattle.studio_rules.specs.OwnData.{count}
use Rattle.studio_rules.specs.Layout.{Run, end, skip, known, figure, size, identifiers, child, offset_of}
use Rattle.studio_rules.specs.Gives.{Mesh, mesh_of}

-- a 4100: where the name of its object stands, and its length without the zero; where its children begin, and these
pub record Standing : Type 0 where
  pub name_at : ℕ
  pub name_length : ℕ
  pub at : ℕ
  pub kids : Run

-- the mesh that it is
abbrev pub mesh_in : Standing → Mesh
mesh_in m = mesh_of m.name_at m.name_length m.kids

abbrev pub one_standing : Bool → Standing → List Standing
one_standing true m = m ∷ []
one_standing false m = []

-- those of a run that begins at o, in a chunk whose own data begins at `name_at` and has `name_length` bytes and one more
abbrev pub standing_of : ℕ → ℕ → ℕ → Run → List Standing
standing_of o name_at name_length end = []
standing_of o name_at name_length (skip id body rest) = standing_of (o + (6 + length body)) name_at name_length rest
standing_of o name_at name_length (known id own kids rest) =
    one_standing (eqb id 0x4100) record { name_at = name_at; name_length = name_length; at = o + (6 + length own); kids = kids } ++
    (standing_of (o + (6 + length own)) (o + 6) (length own - 1) kids ++
    standing_of (o + (6 + length own + size kids)) name_at name_length rest)

-- those of a figure, in file order
abbrev pub standing : Run → List Standing
standing kids = standing_of 0 0 0 (figure kids)

-- ---- its numbers

-- the first element of the first child x, behind its header and its count word; 0 where there is no such child
abbrev pub elements_at : ℕ → ℕ → Run → ℕ
elements_at x o kids = cond (among x (identifiers kids)) (offset_of x o kids + 8) 0

-- how many it has, and where they begin: "Where there is no such chunk both numbers are 0"
abbrev pub elements_of : ℕ → Standing → List ℕ
elements_of x m = count (child x m.kids) ∷ elements_at x m.at m.kids ∷ []

-- "offset and length of its object's name …; vertices and the offset of the first float; faces and the offset of the first
-- corner …; pairs of its 4140 as they stand in the file and the offset of the first float"
abbrev pub mesh_numbers : Standing → List ℕ
mesh_numbers m = m.name_at ∷ m.name_length ∷ (elements_of 0x4110 m ++ (elements_of 0x4120 m ++ elements_of 0x4140 m))

-- the numbers of each, one after another
abbrev pub flattened : {X : Type 0} → (X → List ℕ) → List X → List ℕ
flattened f [] = []
flattened f (x ∷ xs) = f x ++ flattened f xs

-- "Eight numbers a mesh"
abbrev pub flat_meshes : List Standing → List ℕ
flat_meshes ms = flattened mesh_numbers ms
