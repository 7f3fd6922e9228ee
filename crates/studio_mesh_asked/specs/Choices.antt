-- What all calls about one mesh begin with: a refusal, or the mesh. (`choose` is `of_mesh` of crate studio_rules with nothing done
-- with either.)
use Rattle.std.specs.Prelude.{◌≡◌, Bool, true, cond, List, ℕ, leb, length, Option, Some, None, Result, Ok, Err}
use Rattle.shared_words.specs.declared.Refusal.{Refusal}
use Rattle.shared_words.specs.declared.Refusal.TheVariants.{NoRoom}
use Rattle.shared_words.specs.Conditions.{Answer}
use Rattle.studio_rules.specs.Walk.{verdict}
use Rattle.studio_rules.specs.Gives.{Mesh}
use Rattle.studio_rules.specs.Calls.{of_mesh}
use Rattle.studio_mesh_find.specs.declared.Place.{Place}
use Rattle.studio_mesh_find.specs.Places.{PlaceIs}
use Rattle.studio_rules.specs.Layout.{Run}

pub data Choice : Type 0 where
  no : Refusal → Choice
  yes : Mesh → Choice

-- there is room for n numbers; always for a table that is not asked for
abbrev pub room_for : Option ℕ → ℕ → Bool
room_for (Some k) n = leb n k
room_for None n = true

-- a mesh, where there is room for its vertices, its corners and its mapping
abbrev pub fitting : Option ℕ → Option ℕ → Option ℕ → Mesh → Choice
fitting v c p m =
    cond (room_for v (length m.vertices))
    (cond (room_for c (length m.corners))
    (cond (room_for p (length m.mapping)) (yes m) (no (NoRoom (length m.mapping))))
    (no (NoRoom (length m.corners))))
    (no (NoRoom (length m.vertices)))

-- the mesh of a number, taken as `pick` says
abbrev pub choose : (Mesh → Choice) → ℕ → Answer Run → Choice
choose pick mesh a = of_mesh no pick mesh a

abbrev pub ChoiceIs : List ℕ → Choice → Result Place Refusal → Type 0
ChoiceIs s (no x) r = r ≡ Err x
ChoiceIs s (yes m) r = (place : Place) × (r ≡ Ok place) × PlaceIs s m place

pub record AskedIs (s : List ℕ) (pick : Mesh → Choice) (mesh : ℕ) (r : Result Place Refusal) : Type 0 where
  pub is : ChoiceIs s (choose pick mesh (verdict s)) r
