-- What is noted of the objects of an OBJ5, for the list, and what their reading promises.
use Rattle.std.specs.Prelude.{ℕ, ◌+◌, ◌*◌, ◌≤◌, cond, Result, Ok, Err, List, [], ◌∷◌, ◌++◌, eqb, length}
use Rattle.shared_words.specs.Conditions.{Answer, refused, accepted}
use Rattle.shared_words.specs.Lists.{All}
use Rattle.shared_numbers.specs.Put.{Put}
use Rattle.c4d_rules.specs.Gives.{Object}
use Rattle.c4d_rules.specs.Calls.{all_materials}
use Rattle.c4d_object.specs.One.{Roomy}
use Rattle.shared_words.specs.declared.Refusal.{Refusal}
use Rattle.c4d_objects.specs.declared.Figure.{Figure}

-- in front of an object's materials: its offset and its combination as one number, in which 16 tells that it has textures; and how many,
-- if it has any. (So an object of eight bytes takes one number.)
abbrev pub front : ℕ → ℕ → ℕ → List ℕ
front offset number textures = cond (eqb textures 0) ((32 * offset + number) ∷ []) ((32 * offset + 16 + number) ∷ textures ∷ [])

abbrev pub notes_of : Object → List ℕ
notes_of r = front r.offset r.combination (length r.materials) ++ r.materials

abbrev pub all_notes : List Object → List ℕ
all_notes [] = []
all_notes (r ∷ rs) = notes_of r ++ all_notes rs

-- 16 is told apart from a combination
abbrev pub Small : Object → Type 0
Small r = r.combination ≤ 9

-- ---- of the whole OBJ5

-- how many objects and textures
abbrev pub tallied : Answer (List Object) → Result Figure Refusal
tallied (refused r) = Err r
tallied (accepted rs) = Ok record { objects = length rs; textures = length (all_materials rs) }

-- the notes are those of all its objects, where there is room
pub record Noted (s : List ℕ) (rs : List Object) (notes notes' : List ℕ) : Type 0 where
  pub each_small : All Small rs
  pub are : Roomy s notes → Put notes 0 (all_notes rs) notes' (length (all_notes rs))

abbrev pub Notes : List ℕ → Answer (List Object) → List ℕ → List ℕ → Type 0
Notes s (refused r) notes notes' = Unit
Notes s (accepted rs) notes notes' = Noted s rs notes notes'
