-- P1 to P12 of docs/FORMAT.md, as one list under one statement.
use Rattle.studio_rules.specs.declared.Counts.{Counts}
use Rattle.shared_words.specs.declared.Refusal.{Refusal}
use Rattle.std.specs.Prelude.{◌≡◌, ℕ, List, [], ◌∷◌, ◌++◌, length, take, drop, set, replicate, Result, Ok, Err}
use Rattle.shared_words.specs.declared.Refusal.TheVariants.{NoSuchMesh}
use Rattle.studio_rules.specs.declared.Corner.{Corner}
use Rattle.shared_words.specs.Refusals.{code_of}
use Rattle.shared_words.specs.Conditions.{Answer, refused, accepted}
use Rattle.studio_rules.specs.Walk.{verdict}
use Rattle.studio_rules.specs.Gives.{list, flat, Mesh, meshes}
use Rattle.shared_words.specs.Floats.{float}
use Rattle.studio_rules.specs.Encodings.{flat_records}
use Rattle.studio_rules.specs.Calls.{check_call, list_call, name_call, box_call, box_answer}
use Rattle.studio_rules.specs.Layout.{Run}

-- an answer as the paper writes it: a refusal's number and place; or the counts of headers, own data and skipped bytes
pub data Shown : Type 0 where
  no : ℕ → ℕ → Shown
  yes : ℕ → ℕ → ℕ → Shown

abbrev pub shown : Result Counts Refusal → Shown
shown (Err r) = no (code_of r).number (code_of r).place
shown (Ok c) = yes c.headers c.own c.skipped

-- ---- the files

abbrev pub p4 : List ℕ
p4 = 0x4D ∷ 0x4D ∷ 0x0C ∷ 0 ∷ 0 ∷ 0 ∷ 0x3D ∷ 0x3D ∷ 6 ∷ 0 ∷ 0 ∷ 0 ∷ []

abbrev pub triangle : List ℕ
triangle =
    0x4D ∷ 0x4D ∷ 0x56 ∷ 0 ∷ 0 ∷ 0 ∷ 0x3D ∷ 0x3D ∷ 0x50 ∷ 0 ∷ 0 ∷ 0 ∷ 0x00 ∷ 0x40 ∷ 0x4A ∷ 0 ∷ 0 ∷ 0 ∷ 0x41 ∷ 0x00 ∷
    0x00 ∷ 0x41 ∷ 0x42 ∷ 0 ∷ 0 ∷ 0 ∷ 0x10 ∷ 0x41 ∷ 0x2C ∷ 0 ∷ 0 ∷ 0 ∷ 3 ∷ 0 ∷
    0 ∷ 0 ∷ 0 ∷ 0 ∷ 0 ∷ 0 ∷ 0 ∷ 0 ∷ 0 ∷ 0 ∷ 0 ∷ 0 ∷
    0 ∷ 0 ∷ 0x80 ∷ 0x3F ∷ 0 ∷ 0 ∷ 0 ∷ 0 ∷ 0 ∷ 0 ∷ 0 ∷ 0 ∷
    0 ∷ 0 ∷ 0 ∷ 0 ∷ 0 ∷ 0 ∷ 0x80 ∷ 0x3F ∷ 0 ∷ 0 ∷ 0 ∷ 0 ∷
    0x20 ∷ 0x41 ∷ 0x10 ∷ 0 ∷ 0 ∷ 0 ∷ 1 ∷ 0 ∷ 0 ∷ 0 ∷ 1 ∷ 0 ∷ 2 ∷ 0 ∷ 0 ∷ 0 ∷ []

-- a chunk 8123 of length 10 put at offset 20, and the three lengths around it raised; inside it, what looks like a 4110
abbrev pub p12 : List ℕ
p12 = set (set (set (take 20 triangle ++ (0x23 ∷ 0x81 ∷ 10 ∷ 0 ∷ 0 ∷ 0 ∷ 0x10 ∷ 0x41 ∷ 6 ∷ 0 ∷ []) ++ drop 20 triangle) 2 0x60) 8 0x5A) 14 0x54

-- ---- the answers

abbrev pub answers : List (Result Counts Refusal)
answers =
    check_call [] ∷
    check_call (0x4D ∷ 0x4D ∷ 5 ∷ 0 ∷ 0 ∷ 0 ∷ []) ∷
    check_call (0x4D ∷ 0x4D ∷ 6 ∷ 0 ∷ 0 ∷ 0 ∷ []) ∷
    check_call p4 ∷
    check_call (p4 ++ (0 ∷ [])) ∷
    check_call (set p4 2 13 ++ (0 ∷ [])) ∷
    check_call (set p4 8 7) ∷
    check_call triangle ∷
    check_call (set triangle 82 3) ∷
    check_call (set triangle 32 4) ∷
    (list_call flat_records triangle (replicate 41 0)).answer ∷
    check_call p12 ∷ []

abbrev pub papers : List Shown
papers =
    no 2 0 ∷
    no 4 0 ∷
    no 14 0 ∷
    yes 12 0 0 ∷
    no 3 12 ∷
    no 6 12 ∷
    no 5 6 ∷
    yes 36 50 0 ∷
    no 12 70 ∷
    no 10 26 ∷
    no 15 6 ∷
    yes 36 50 10 ∷ []

abbrev pub show_all : List (Result Counts Refusal) → List Shown
show_all [] = []
show_all (a ∷ rest) = shown a ∷ show_all rest

-- the list, and the tables of the meshes, of an accepted file
abbrev pub list_in : Answer Run → List ℕ
list_in (refused r) = []
list_in (accepted kids) = flat (list kids)

abbrev pub tables : List Mesh → List (List ℕ × List ℕ)
tables [] = []
tables (m ∷ ms) = (m.vertices, m.corners) ∷ tables ms

abbrev pub tables_in : Answer Run → List (List ℕ × List ℕ)
tables_in (refused r) = []
tables_in (accepted kids) = tables (meshes kids)

-- identifier, offset, length, depth, parent, own data, the number of the next record behind the branch
abbrev pub triangle_list : List ℕ
triangle_list =
    0x4D4D ∷ 0 ∷ 86 ∷ 0 ∷ 0 ∷ 0 ∷ 6 ∷
    0x3D3D ∷ 6 ∷ 80 ∷ 1 ∷ 0 ∷ 0 ∷ 6 ∷
    0x4000 ∷ 12 ∷ 74 ∷ 2 ∷ 1 ∷ 2 ∷ 6 ∷
    0x4100 ∷ 20 ∷ 66 ∷ 3 ∷ 2 ∷ 0 ∷ 6 ∷
    0x4110 ∷ 26 ∷ 44 ∷ 4 ∷ 3 ∷ 38 ∷ 5 ∷
    0x4120 ∷ 70 ∷ 16 ∷ 4 ∷ 3 ∷ 10 ∷ 6 ∷ []

abbrev pub p12_list : List ℕ
p12_list =
    0x4D4D ∷ 0 ∷ 96 ∷ 0 ∷ 0 ∷ 0 ∷ 6 ∷
    0x3D3D ∷ 6 ∷ 90 ∷ 1 ∷ 0 ∷ 0 ∷ 6 ∷
    0x4000 ∷ 12 ∷ 84 ∷ 2 ∷ 1 ∷ 2 ∷ 6 ∷
    0x4100 ∷ 30 ∷ 66 ∷ 3 ∷ 2 ∷ 0 ∷ 6 ∷
    0x4110 ∷ 36 ∷ 44 ∷ 4 ∷ 3 ∷ 38 ∷ 5 ∷
    0x4120 ∷ 80 ∷ 16 ∷ 4 ∷ 3 ∷ 10 ∷ 6 ∷ []

-- 1.0 as its bits, and a point of the plane z = 0
abbrev pub one : ℕ
one = 0x3F80_0000

abbrev pub point : ℕ → ℕ → Corner
point x y = record { x = float x; y = float y; z = float 0 }

pub record Samples : Type 0 where
  pub p1_to_p12 : show_all answers ≡ papers
  pub p8_list : list_in (verdict triangle) ≡ triangle_list
  pub p8_name : name_call triangle 0 ≡ Ok record { offset = 18; size = 1 }
  pub p8_one_mesh : name_call triangle 7 ≡ Err (NoSuchMesh 1)
  pub p8_box : box_call triangle 0 ≡ box_answer record { low = point 0 0; high = point one one } (point 0x3F00_0000 0x3F00_0000)
  pub p8_tables : tables_in (verdict triangle) ≡ (0 ∷ 0 ∷ 0 ∷ one ∷ 0 ∷ 0 ∷ 0 ∷ one ∷ 0 ∷ [], 0 ∷ 1 ∷ 2 ∷ []) ∷ []
  pub p12-length : length p12 ≡ 96
  -- the mesh at 30, and with it its vertices and its faces
  pub p12-list : list_in (verdict p12) ≡ p12_list
  pub p12-tables : tables_in (verdict p12) ≡ tables_in (verdict triangle)
