-- Worked files: the smallest, one with objects of three combinations, and one for each refusal. (The answers were compared with
-- those of an independent reader.)
use Rattle.std.specs.Prelude.{◌≡◌, ℕ, ◌+◌, ◌<◌, List, [], ◌∷◌, ◌++◌, length, set, replicate}
use Rattle.shared_words.specs.declared.Refusal.TheVariants.{TooLong}
use Rattle.shared_words.specs.Refusals.{limit, code_of}
use Rattle.shared_words.specs.Bytes.{be, minus_one}
use Rattle.c4d_rules.specs.Kinds.{mat_end, mat_next, t_end, t_object, t_points, t_triangles, t_edges, t_polygon, t_texture, t_phong, t_sphere, t_hermite}
use Rattle.c4d_rules.specs.Layout.{file_header}
use Rattle.shared_words.specs.Conditions.{Answer, refused, accepted}
use Rattle.c4d_rules.specs.Walk.{verdict}
use Rattle.c4d_rules.specs.Gives.{Object}
use Rattle.c4d_rules.specs.Calls.{objects_call}

-- ---- the files

abbrev pub file : List ℕ → List ℕ
file chunks = file_header (4 + length chunks) ++ chunks

abbrev pub chunk : ℕ → List ℕ → List ℕ
chunk id body = be 4 id ++ (be 4 (length body) ++ body)

abbrev pub pltf : List ℕ
pltf = chunk 0x504C_5446 (be 4 1)

-- UMG4, which is unlisted
abbrev pub umg4 : List ℕ
umg4 = chunk 0x554D_4734 (0 ∷ [])

abbrev pub mat4 : List ℕ → List ℕ
mat4 subs = chunk 0x4D41_5434 subs

abbrev pub obj5 : List ℕ → List ℕ
obj5 subs = chunk 0x4F42_4A35 subs

-- a sub-chunk of MAT4, and one of OBJ5
abbrev pub m : ℕ → List ℕ → List ℕ
m id body = be 2 id ++ (be 2 (length body) ++ body)

abbrev pub t : ℕ → List ℕ → List ℕ
t id body = be 1 id ++ (be 3 (length body) ++ body)

abbrev pub texture : ℕ → List ℕ
texture material = t t_texture (replicate 60 255 ++ be 4 material)

abbrev pub object : List ℕ → List ℕ
object subs = t t_object [] ++ (subs ++ t t_end [])

-- two materials
abbrev pub two : List ℕ
two = mat4 (m mat_next [] ++ m mat_end [])

-- points with a triangle and edges, and a texture between
abbrev pub solid : List ℕ
solid = object (t t_points (0 ∷ []) ++ (t t_triangles [] ++ (texture 1 ++ t t_edges [])))

-- a polygon with Hermite vectors
abbrev pub curve : List ℕ
curve = object (t t_hermite [] ++ t t_polygon [])

-- none of these: T_PHONG between two textures, and a repeated unknown sub-chunk
abbrev pub group : List ℕ
group = object (t 2 [] ++ (texture minus_one ++ (t t_phong [] ++ (t 2 [] ++ texture 0))))

-- with unlisted chunks between the chunks, and an unknown sub-chunk between the objects
abbrev pub scene : List ℕ
scene = file (pltf ++ (umg4 ++ (two ++ (umg4 ++ obj5 (solid ++ (t 200 (0 ∷ []) ++ (curve ++ group)))))))

-- one OBJ5 in a file
abbrev pub only : List ℕ → List ℕ
only subs = file (obj5 subs)

-- ---- the answers

-- an answer: a refusal's number and place, or the objects
pub data Shown : Type 0 where
  no : ℕ → ℕ → Shown
  yes : List Object → Shown

abbrev pub shown : Answer (List Object) → Shown
shown (refused r) = no (code_of r).number (code_of r).place
shown (accepted rs) = yes rs

-- with so much room, and with room for all
abbrev pub answer_in : ℕ → ℕ → List ℕ → Shown
answer_in object_room material_room s = shown (objects_call object_room material_room s)

abbrev pub answer : List ℕ → Shown
answer s = answer_in limit limit s

abbrev pub row : ℕ → ℕ → List ℕ → Object
row offset combination materials = record { offset = offset; combination = combination; materials = materials }

pub record Samples : Type 0 where
  pub smallest : answer (file []) ≡ yes []
  pub three-combinations : answer scene ≡ yes (row 66 1 (1 ∷ []) ∷ row 160 2 [] ∷ row 176 9 (minus_one ∷ 0 ∷ []) ∷ [])
  pub empty-objects : answer (only []) ≡ yes []
  pub one-too_long : (s : List ℕ) → limit < length s → verdict s ≡ refused TooLong
  pub twenty_five_letters : answer (set (file []) 3 0x6D) ≡ no 25 0
  pub twenty_five_size : answer (file [] ++ (0 ∷ [])) ≡ no 25 0
  pub five_header : answer (file (umg4 ++ (0 ∷ []))) ≡ no 5 21
  pub five_size : answer (set (file umg4) 19 2) ≡ no 5 12
  -- at one place 5 comes before 26
  pub five_after_end : answer (file (mat4 (m mat_end [] ++ (0 ∷ [])))) ≡ no 5 24
  pub ten_texture : answer (only (object (t t_texture (replicate 63 0)))) ≡ no 10 24
  pub ten_outside : answer (only (t t_texture [])) ≡ no 10 20
  pub twenty_six_platform : answer (file (umg4 ++ pltf)) ≡ no 26 21
  pub twenty_six_objects_first : answer (file (obj5 [] ++ two)) ≡ no 26 20
  pub twenty_six_twice : answer (file (obj5 [] ++ obj5 [])) ≡ no 26 20
  pub twenty_six_after_end : answer (file (mat4 (m mat_end [] ++ m 1 []))) ≡ no 26 24
  pub twenty_six_no_end : answer (file (pltf ++ mat4 [])) ≡ no 26 24
  pub twenty_six_open : answer (only (t t_object [])) ≡ no 26 12
  pub twenty_six_two : answer (only (t t_object [] ++ t t_object [])) ≡ no 26 24
  pub twenty_six_outside : answer (only (t t_end [])) ≡ no 26 20
  pub twenty_eight_above : answer (file (two ++ obj5 (object (texture 2)))) ≡ no 28 40
  pub twenty_eight_negative : answer (file (two ++ obj5 (object (texture 0xFFFF_FFFE)))) ≡ no 28 40
  pub twenty_eight_no_mat4 : answer (only (object (texture 0))) ≡ no 28 24
  pub twenty_eight_before_twenty_seven : answer (only (object (t t_sphere [] ++ texture 0))) ≡ no 28 28
  pub twenty_seven_sphere : answer (only (object (t t_sphere []))) ≡ no 27 28
  pub twenty_seven_edges : answer (only (object (t t_points [] ++ t t_triangles []))) ≡ no 27 32
  pub twenty_seven_hermite : answer (only (object (t t_points [] ++ t t_hermite []))) ≡ no 27 32
  pub twenty_seven_repeat : answer (only (object (t t_phong [] ++ t t_phong []))) ≡ no 27 32
  pub fifteen_objects : answer_in 0 1 (file (two ++ obj5 group)) ≡ no 15 1
  pub fifteen_materials : answer_in 1 1 (file (two ++ obj5 group)) ≡ no 15 2
