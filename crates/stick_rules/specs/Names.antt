-- Names on a stick: when two are one, and what a name stands for.
use Rattle.std.specs.Prelude.{Bool, true, false, ◌&&◌, cond, List, [], ◌∷◌, ℕ, ◌+◌, ◌-◌, eqb, leb, length, drop}

-- ---- capital letters are small ones, as FAT has it; no letter beyond ASCII is

abbrev pub lower : ℕ → ℕ
lower b = cond (leb 65 b && leb b 90) (b + 32) b

unfoldable pub equal_ignoring_case : List ℕ → List ℕ → Bool
equal_ignoring_case [] [] = true
equal_ignoring_case [] (y ∷ ys) = false
equal_ignoring_case (x ∷ xs) [] = false
equal_ignoring_case (x ∷ xs) (y ∷ ys) = eqb (lower x) (lower y) && equal_ignoring_case xs ys

-- ---- folders, by the names of the files in them

-- a file of this name stands in the folder of this path, or in one below it: the name begins with the path and '/'
unfoldable pub is_inside : List ℕ → List ℕ → Bool
is_inside [] [] = false
is_inside [] (x ∷ path) = false
is_inside (y ∷ name) [] = eqb y 47
is_inside (y ∷ name) (x ∷ path) = eqb (lower y) (lower x) && is_inside name path

-- a name belongs to the path of a file, or of a folder
abbrev pub belongs : Bool → List ℕ → List ℕ → Bool
belongs file name path = cond file (equal_ignoring_case name path) (is_inside name path)

-- ---- figures, by the ending of the path. (No slash stands in an ending, so it is that of the last name in the path.)

-- ".3ds", ".cob", ".c4d"
abbrev pub studio_ending : List ℕ
studio_ending = 46 ∷ 51 ∷ 100 ∷ 115 ∷ []

abbrev pub cob_ending : List ℕ
cob_ending = 46 ∷ 99 ∷ 111 ∷ 98 ∷ []

abbrev pub c4d_ending : List ℕ
c4d_ending = 46 ∷ 99 ∷ 52 ∷ 100 ∷ []

abbrev pub ends_as : List ℕ → List ℕ → Bool
ends_as ending path = leb 4 (length path) && equal_ignoring_case ending (drop (length path - 4) path)

-- the number of the reader that must judge it: 1 of 3D Studio, 2 of Caligari, 3 of Cinema 4D figures; 0 where it is no figure
unfoldable pub format_of : List ℕ → ℕ
format_of path = cond (ends_as studio_ending path) 1 (cond (ends_as cob_ending path) 2 (cond (ends_as c4d_ending path) 3 0))

-- ---- the slip stands at the top of the stick: "stick.slip"

abbrev pub slip_name : List ℕ
slip_name = 115 ∷ 116 ∷ 105 ∷ 99 ∷ 107 ∷ 46 ∷ 115 ∷ 108 ∷ 105 ∷ 112 ∷ []
