-- What each call answers and leaves in the lent rows, for every file and every row. The contracts of the public functions are
-- equations with these definitions.
use Rattle.shared_words.specs.declared.Refusal.{Refusal}
use Rattle.std.specs.Prelude.{ℕ, ◌/◌, List, [], ◌∷◌, ◌++◌, leb, length, Result, Ok, Err}
use Rattle.shared_words.specs.declared.Refusal.TheVariants.{NoRoom}
use Rattle.shared_words.specs.Bytes.{packed}
use Rattle.shared_words.specs.Conditions.{Condition, must, broken, Answer, refused, accepted, unless}
use Rattle.shared_words.specs.Effects.{Effect, leaving, filled}
use Rattle.shared_words.specs.Encodings.{Encoding}
use Rattle.c4d_rules.specs.Layout.{Layout}
use Rattle.c4d_rules.specs.Walk.{verdict}
use Rattle.c4d_rules.specs.Gives.{Object, objects}

-- ---- the check

abbrev pub check_of : Answer Layout → Result ℕ Refusal
check_of (refused r) = Err r
check_of (accepted l) = Ok (length (objects l))

unfoldable pub c4d_check_call : List ℕ → Result ℕ Refusal
c4d_check_call s = check_of (verdict s)

-- ---- the objects, where there is so much room for objects and for materials

-- the materials of all objects, in order
abbrev pub all_materials : List Object → List ℕ
all_materials [] = []
all_materials (r ∷ rs) = r.materials ++ all_materials rs

-- "15 last, objects before materials"
abbrev pub room_conditions : ℕ → ℕ → List Object → List Condition
room_conditions object_room material_room rs =
    must (leb (length rs) object_room) (NoRoom (length rs)) ∷
    must (leb (length (all_materials rs)) material_room) (NoRoom (length (all_materials rs))) ∷ []

abbrev pub objects_of : ℕ → ℕ → Answer Layout → Answer (List Object)
objects_of object_room material_room (refused r) = refused r
objects_of object_room material_room (accepted l) = unless (broken (room_conditions object_room material_room (objects l))) (accepted (objects l))

unfoldable pub objects_call : ℕ → ℕ → List ℕ → Answer (List Object)
objects_call object_room material_room s = objects_of object_room material_room (verdict s)

-- ---- the list: a row of objects and a row of materials, whose rooms are counted in whole objects and materials

-- an object as three numbers: offset, combination, how many textures it has
abbrev pub flat : List Object → List ℕ
flat [] = []
flat (r ∷ rs) = r.offset ∷ r.combination ∷ length r.materials ∷ flat rs

-- four bytes a number
abbrev pub object_bytes : Encoding Object ℕ
object_bytes = record { room = λ n. n / 12; encode = λ rs. packed 4 (flat rs) }

pub record Rows (A B : Type 0) : Type 0 where
  pub objects : List A
  pub materials : List B

abbrev pub two_rows : {A B : Type 0} → List A → List B → Rows A B
two_rows os ms = record { objects = os; materials = ms }

abbrev pub list_of : {A B : Type 0} → Encoding Object A → Encoding ℕ B → List A → List B → Answer (List Object) → Effect (Result ℕ Refusal) (Rows A B)
list_of e m os ms (refused r) = leaving (Err r) (two_rows os ms)
list_of e m os ms (accepted rs) = leaving (Ok (length rs)) (two_rows (filled (e.encode rs) os) (filled (m.encode (all_materials rs)) ms))

unfoldable pub c4d_list_call : {A B : Type 0} → Encoding Object A → Encoding ℕ B → List ℕ → List A → List B → Effect (Result ℕ Refusal) (Rows A B)
c4d_list_call e m s os ms = list_of e m os ms (objects_call (e.room (length os)) (m.room (length ms)) s)
