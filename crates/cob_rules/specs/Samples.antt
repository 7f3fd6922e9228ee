-- Worked files: the smallest, a triangle with a material, and one for each refusal. (The answers were compared with those of an
-- independent reader.)
use Rattle.std.specs.Prelude.{◌≡◌, ℕ, ◌<◌, List, [], ◌∷◌, ◌++◌, length, take, drop, set, replicate}
use Rattle.shared_words.specs.Refusals.{limit, code_of}
use Rattle.shared_words.specs.Conditions.{refused, accepted}
use Rattle.shared_words.specs.Bytes.{le, packed, minus_one}
use Rattle.cob_rules.specs.declared.Record.{Record}
use Rattle.shared_words.specs.declared.Refusal.TheVariants.{TooLong}
use Rattle.cob_rules.specs.Kinds.{end_type, grou_type, polh_type, mat1_type}
use Rattle.cob_rules.specs.Layout.{file_header}
use Rattle.cob_rules.specs.Walk.{Verdict, verdict}
use Rattle.cob_rules.specs.Gives.{list, Mesh, meshes}

-- ---- the files

abbrev pub chunk : List ℕ → ℕ → ℕ → ℕ → List ℕ → List ℕ
chunk type id parent size body = type ++ (le 4 id ++ (le 4 parent ++ (le 4 size ++ body)))

-- BitM 0.01, which is unlisted
abbrev pub bitm : List ℕ
bitm = 0x42 ∷ 0x69 ∷ 0x74 ∷ 0x4D ∷ 0 ∷ 0 ∷ 1 ∷ 0 ∷ []

abbrev pub the_end : List ℕ
the_end = chunk end_type 0 0 0 []

-- the smallest file, 52 bytes
abbrev pub smallest : List ℕ
smallest = file_header ++ the_end

-- a name "A", axes and position of zeros: 101 bytes
abbrev pub figure_a : List ℕ
figure_a = 0 ∷ 0 ∷ 1 ∷ 0 ∷ 0x41 ∷ replicate 96 0

-- 1.0 as its bits
abbrev pub one : ℕ
one = 0x3F80_0000

-- three vertices with numbers 0 and x, and one texture vertex with 0 and u
abbrev pub lists : ℕ → ℕ → List ℕ
lists x u = packed 4 (3 ∷ 0 ∷ 0 ∷ 0 ∷ x ∷ 0 ∷ 0 ∷ 0 ∷ x ∷ 0 ∷ 1 ∷ 0 ∷ u ∷ [])

-- flags, count, material; corners 0, 1 and k, the last with texture vertex t
abbrev pub face_to : ℕ → ℕ → List ℕ
face_to k t = 0 ∷ 3 ∷ 0 ∷ 0 ∷ 0 ∷ packed 4 (0 ∷ 0 ∷ 1 ∷ 0 ∷ k ∷ t ∷ [])

-- a hole of no corners
abbrev pub a_hole : List ℕ
a_hole = 8 ∷ 0 ∷ 0 ∷ []

-- a mesh of such lists, and so many faces and holes
abbrev pub mesh : ℕ → ℕ → ℕ → List ℕ → List ℕ
mesh x u n faces = figure_a ++ (lists x u ++ (le 4 n ++ faces))

abbrev pub material : List ℕ
material = replicate 37 0

-- a group 5, in it a PolH 7 of size -1, in it a material 9; 101, 186 and 37 bytes of body
abbrev pub triangle : List ℕ
triangle =
    file_header ++
    (chunk grou_type 5 0 101 figure_a ++ (chunk polh_type 7 5 minus_one (mesh one 0 1 (face_to 2 0)) ++ (chunk mat1_type 9 7 37 material ++ the_end)))

-- one PolH in a file
abbrev pub only : List ℕ → List ℕ
only body = file_header ++ (chunk polh_type 7 0 minus_one body ++ the_end)

-- ---- the answers

-- an answer: a refusal's number and place, or the list and the meshes
pub data Shown : Type 0 where
  no : ℕ → ℕ → Shown
  yes : List Record → List Mesh → Shown

abbrev pub shown : Verdict → Shown
shown (refused r) = no (code_of r).number (code_of r).place
shown (accepted l) = yes (list l) (meshes l)

abbrev pub answer : List ℕ → Shown
answer s = shown (verdict s)

abbrev pub row : ℕ → ℕ → ℕ → ℕ → ℕ → ℕ → Record
row kind offset len identifier parent owner =
    record { kind = kind; offset = offset; len = len; identifier = identifier; parent = parent; owner = owner }

abbrev pub tables : List ℕ → List Mesh
tables corners = record { vertex_count = 3; vertices = 0 ∷ 0 ∷ 0 ∷ one ∷ 0 ∷ 0 ∷ 0 ∷ one ∷ 0 ∷ []; face_count = 1; corners = corners } ∷ []

pub record Samples : Type 0 where
  pub smallest-file : answer smallest ≡ yes (row 0x2044_4E45 32 20 0 0 0 ∷ []) []
  pub triangle-file : answer triangle ≡ yes (
      row 0x756F_7247 32 121 5 0 5 ∷
      row 0x486C_6F50 153 206 7 5 5 ∷
      row 0x3174_614D 359 57 9 7 5 ∷
      row 0x2044_4E45 416 20 0 0 0 ∷ []) (tables (0 ∷ 1 ∷ 2 ∷ []))
  -- the same with 5 bytes in a BitM put before the PolH: what stands behind it moves by 25
  pub triangle-put : answer (take 153 triangle ++ (chunk bitm 8 0 5 (replicate 5 0) ++ drop 153 triangle)) ≡ yes (
      row 0x756F_7247 32 121 5 0 5 ∷
      row 0x486C_6F50 178 206 7 5 5 ∷
      row 0x3174_614D 384 57 9 7 5 ∷
      row 0x2044_4E45 441 20 0 0 0 ∷ []) (tables (0 ∷ 1 ∷ 2 ∷ []))
  -- a face with a hole is not in the table
  pub pierced : answer (only (mesh one 0 3 (face_to 2 0 ++ (a_hole ++ face_to 1 0)))) ≡ yes (
      row 0x486C_6F50 32 238 7 0 7 ∷
      row 0x2044_4E45 270 20 0 0 0 ∷ []) (tables (0 ∷ 1 ∷ 1 ∷ []))
  pub one-too_long : (s : List ℕ) → limit < length s → verdict s ≡ refused TooLong
  pub twenty_header : answer (set smallest 15 0x41) ≡ no 20 0
  pub twenty_cut : answer (take 31 smallest) ≡ no 20 0
  pub five_overrun : answer (take 51 smallest) ≡ no 5 32
  pub five_stated : answer (file_header ++ (chunk bitm 1 0 21 [] ++ the_end)) ≡ no 5 32
  pub twenty_one_zero : answer (file_header ++ (chunk bitm 0 0 0 [] ++ the_end)) ≡ no 21 32
  pub twenty_one_twice : answer (file_header ++ (chunk bitm 1 0 0 [] ++ (chunk bitm 1 0 0 [] ++ the_end))) ≡ no 21 52
  pub twenty_one_parent : answer (file_header ++ (chunk bitm 1 1 0 [] ++ the_end)) ≡ no 21 32
  pub twenty_two_unlisted : answer (file_header ++ (chunk bitm 1 0 minus_one [] ++ the_end)) ≡ no 22 32
  pub twenty_two_minus_two : answer (file_header ++ chunk end_type 0 0 0xFFFF_FFFE []) ≡ no 22 32
  pub ten_end : answer (file_header ++ chunk end_type 0 0 1 (0 ∷ [])) ≡ no 10 32
  pub ten_dupecount : answer (file_header ++ (chunk grou_type 1 0 101 (set figure_a 1 0x80) ++ the_end)) ≡ no 10 32
  pub ten_file_end : answer (file_header ++ chunk grou_type 1 0 minus_one (take 100 figure_a)) ≡ no 10 32
  pub eleven_vertex : answer (only (mesh 0x7F80_0000 0 1 (face_to 2 0))) ≡ no 11 32
  pub eleven_texture : answer (only (mesh one 0xFFC0_0000 1 (face_to 2 0))) ≡ no 11 32
  pub twelve_vertex : answer (only (mesh one 0 1 (face_to 3 0))) ≡ no 12 32
  pub twelve_texture : answer (only (mesh one 0 1 (face_to 2 1))) ≡ no 12 32
  pub twelve_negative : answer (only (mesh one 0 1 (face_to minus_one 0))) ≡ no 12 32
  pub twelve_hole : answer (only (mesh one 0 1 a_hole)) ≡ no 12 32
  pub three_trailing : answer (smallest ++ (0 ∷ [])) ≡ no 3 52
  pub fourteen_missing : answer file_header ≡ no 14 32
