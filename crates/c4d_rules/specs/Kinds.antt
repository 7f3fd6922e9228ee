-- The identifiers of source 000 that Q-12 speaks of.
use Rattle.std.specs.Prelude.{ℕ, Bool, cond, List, [], ◌∷◌, ◌++◌, eqb}
use Rattle.shared_words.specs.Lists.{among}

-- ---- section 4: chunks

pub data Kind : Type 0 where
  -- PLTF
  Platform : Kind
  -- MAT4
  Materials : Kind
  -- OBJ5
  Objects : Kind
  -- unlisted: "others skipped", UMG4 too
  Other : Kind

abbrev pub kind_of : ℕ → Kind
kind_of id = cond (eqb id 0x504C_5446) Platform (cond (eqb id 0x4D41_5434) Materials (cond (eqb id 0x4F42_4A35) Objects Other))

-- ---- section 4.2: sub-chunks of MAT4. (No other one matters.)

abbrev pub mat_end : ℕ
mat_end = 0

abbrev pub mat_next : ℕ
mat_next = 65

-- ---- section 4.3: sub-chunks of OBJ5

abbrev pub t_end : ℕ
t_end = 0

abbrev pub t_object : ℕ
t_object = 1

abbrev pub t_points : ℕ
t_points = 16

abbrev pub t_triangles : ℕ
t_triangles = 17

abbrev pub t_quadrangles : ℕ
t_quadrangles = 18

abbrev pub t_edges : ℕ
t_edges = 19

abbrev pub t_polygon : ℕ
t_polygon = 20

abbrev pub t_light : ℕ
t_light = 21

abbrev pub t_camera : ℕ
t_camera = 22

abbrev pub t_texture : ℕ
t_texture = 23

abbrev pub t_phong : ℕ
t_phong = 24

abbrev pub t_ground : ℕ
t_ground = 25

abbrev pub t_sky : ℕ
t_sky = 26

abbrev pub t_sphere : ℕ
t_sphere = 27

abbrev pub t_display : ℕ
t_display = 28

abbrev pub t_environment : ℕ
t_environment = 29

abbrev pub t_hermite : ℕ
t_hermite = 30

abbrev pub t_kinematic : ℕ
t_kinematic = 31

abbrev pub t_root : ℕ
t_root = 32

-- those that only their combinations may have
abbrev pub exclusive : List ℕ
exclusive =
    t_points ∷ t_triangles ∷ t_quadrangles ∷ t_edges ∷ t_polygon ∷ t_light ∷ t_camera ∷ t_ground ∷ t_sky ∷ t_sphere ∷ t_environment ∷ t_hermite ∷ []

-- "Some subchunks like T_TEXTURE and T_PHONG are optional - they can be used with any type of object."
abbrev pub anywhere : List ℕ
anywhere = t_texture ∷ t_phong ∷ t_display ∷ t_kinematic ∷ t_root ∷ []

-- the sub-chunks that section 4.3 lists for an object; any other is unknown
abbrev pub parts : List ℕ
parts = exclusive ++ anywhere

unfoldable pub listed : ℕ → Bool
listed id = among id (t_end ∷ t_object ∷ parts)
