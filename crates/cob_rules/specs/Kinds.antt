-- The four chunk types of Q-4 as data: the letters and version of each, whether its size may be -1, and the parts of its
-- body, in source 003's order.
use Rattle.std.specs.Prelude.{ℕ, Bool, true, false, cond, List, [], ◌∷◌, ◌++◌}
use Rattle.shared_words.specs.Lists.{same}
use Rattle.cob_rules.specs.declared.Kind.{Kind}
use Rattle.cob_rules.specs.declared.Kind.TheVariants.{End, Grou, PolH, Mat1, Other}

-- Type and version are the first eight bytes of a chunk: four letters, two bytes major, two bytes minor.
-- "END " 1.0, "Grou" 0.01, "PolH" 0.02 (it "decides over POLH"), "Mat1" 0.05
abbrev pub end_type : List ℕ
end_type = 0x45 ∷ 0x4E ∷ 0x44 ∷ 0x20 ∷ 1 ∷ 0 ∷ 0 ∷ 0 ∷ []

abbrev pub grou_type : List ℕ
grou_type = 0x47 ∷ 0x72 ∷ 0x6F ∷ 0x75 ∷ 0 ∷ 0 ∷ 1 ∷ 0 ∷ []

abbrev pub polh_type : List ℕ
polh_type = 0x50 ∷ 0x6F ∷ 0x6C ∷ 0x48 ∷ 0 ∷ 0 ∷ 2 ∷ 0 ∷ []

abbrev pub mat1_type : List ℕ
mat1_type = 0x4D ∷ 0x61 ∷ 0x74 ∷ 0x31 ∷ 0 ∷ 0 ∷ 5 ∷ 0 ∷ []

-- "another version counts as another type"
abbrev pub kind_of : List ℕ → Kind
kind_of t = cond (same t end_type) End (cond (same t grou_type) Grou (cond (same t polh_type) PolH (cond (same t mat1_type) Mat1 Other)))

abbrev pub is_end : Kind → Bool
is_end End = true
is_end Grou = false
is_end PolH = false
is_end Mat1 = false
is_end Other = false

abbrev pub is_mesh : Kind → Bool
is_mesh End = false
is_mesh Grou = false
is_mesh PolH = true
is_mesh Mat1 = false
is_mesh Other = false

abbrev pub listed : Kind → Bool
listed End = true
listed Grou = true
listed PolH = true
listed Mat1 = true
listed Other = false

-- "A size of -1 is allowed for END, Grou and PolH, whose bodies tell their own end"
abbrev pub tells_end : Kind → Bool
tells_end End = true
tells_end Grou = true
tells_end PolH = true
tells_end Mat1 = false
tells_end Other = false

-- ---- bodies

pub data Part : Type 0 where
  -- so many bytes, whatever they are
  plain : ℕ → Part
  -- a number of so many bytes, not negative
  natural : ℕ → Part
  -- a count of so many bytes, not negative; then as many times so many bytes
  times : ℕ → ℕ → Part
  -- a count of 4 bytes, not negative; then as many faces and holes
  faces : Part
  -- where its letter and a colon stand: these two, a flags byte, a string and so many bytes more. Elsewhere nothing.
  optional : ℕ → ℕ → Part
  -- all that there is
  anything : Part

-- "String length, String"
abbrev pub string : Part
string = times 2 1

-- name: dupecount and string; local axes; current position
abbrev pub group : List Part
group = natural 2 ∷ string ∷ plain 48 ∷ plain 48 ∷ []

-- three floats a vertex, two floats a texture vertex
abbrev pub vertices : Part
vertices = times 4 12

abbrev pub textures : Part
textures = times 4 8

-- Material data are a number of 2 bytes, 3 characters and 8 floats. Then environment, texture (4 floats) and bump map (5).
abbrev pub parts : Kind → List Part
parts End = []
parts Grou = group
parts PolH = group ++ (vertices ∷ textures ∷ faces ∷ [])
parts Mat1 = plain 37 ∷ optional 0x65 0 ∷ optional 0x74 16 ∷ optional 0x62 20 ∷ []
parts Other = anything ∷ []
