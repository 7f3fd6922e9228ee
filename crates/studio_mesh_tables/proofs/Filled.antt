-- The tables of a mesh: refused, or all rows filled. For whichever tables are asked for, and every way in which the numbers
-- stand in the rows.
use Rattle.std.specs.Prelude.{Option, Some, None, Result, Ok, Err}
use mathlib.Core.Path.{◌≡◌, refl, sym, ap, ◌∙◌}
use mathlib.Core.Bool.{Bool, true, false, cond}
use mathlib.Core.List.{List}
use mathlib.Core.Option.{Option as Maybe, none, some}
use Prim.Native.Nat.{ℕ, ◌*◌, ◌≤◌}
use native.Mathlib.Omega.{arith}
use lib.ListN.{length, drop}
use Rattle.shared_words.specs.declared.Refusal.{Refusal}
use Rattle.shared_words.specs.declared.Refusal.TheVariants.{NoRoom}
use Rattle.shared_words.specs.Refusals.{limit}
use Rattle.studio_rules.specs.declared.Sizes.{Sizes}
use Rattle.shared_words.specs.Bytes.{numbers}
use Rattle.studio_rules.specs.OwnData.{corners}
use Rattle.studio_rules.specs.Walk.{verdict}
use Rattle.studio_rules.specs.Within.{SizesWithin}
use Rattle.studio_rules.specs.Gives.{Mesh, filled_up}
use Rattle.shared_words.specs.Encodings.{Encoding}
use Rattle.shared_words.specs.Effects.{Effect, leaving}
use Rattle.studio_rules.specs.Calls.{Rows, Tables, fits, tabled, sizes_of, rows_with, tables_of, tables_call}
use Rattle.studio_mesh_find.specs.declared.Place.{Place}
use Rattle.studio_mesh_find.specs.Places.{PlaceIs}
use Rattle.studio_mesh_asked.specs.Choices.{Choice, no, yes, room_for, fitting, choose}
use Rattle.studio_mesh_asked.proofs.Choices.{with_choice, call-refused, call-goes-on}
use Rattle.studio_mesh_tables.specs.Rows.{rows, sizes_at}

-- what a call answers and leaves, in two parts
pub gives : {A B C : Type 0} {x : Effect (Result Sizes Refusal) (Rows A B C)} {answer : Result Sizes Refusal} {left : Rows A B C} → x ≡ leaving answer left → (answer ≡ x.answer) × (left ≡ x.rows)
gives {A} {B} {C} e = (ap (λ (y : Effect (Result Sizes Refusal) (Rows A B C)). y.answer) (sym e), ap (λ (y : Effect (Result Sizes Refusal) (Rows A B C)). y.rows) (sym e))

-- an answer with the sizes of a mesh, however they were put together
pub filled-sizes : {R : Type 0} {x : Effect (Result Sizes Refusal) R} {sizes same : Sizes} {left : R} → sizes ≡ same → x ≡ leaving (Ok same) left → x ≡ leaving (Ok sizes) left
filled-sizes {left = left} e f = f ∙ ap (λ (n : Sizes). leaving (Ok n) left) (sym e)

-- they are within the limit
pub within : {s : List ℕ} {m : Mesh} {place : Place} {sizes : Sizes} → PlaceIs s m place → length s ≤ limit → sizes ≡ sizes_at place → SizesWithin (Ok sizes)
within p l e = rw e (omega (arith, p.vertices_stay), omega (arith, p.faces_stay), omega (arith, p.vertices_stay, p.pairs_fit_lem))

-- what a row is to the functions that ask for room
abbrev pub lent : {A : Type 0} → Maybe (Encoding ℕ A) → List A → Option ℕ
lent none row = None
lent (some e) row = Some (e.room (length row))

room-is : {A : Type 0} (e : Maybe (Encoding ℕ A)) (numbers : List ℕ) (row : List A) → fits e numbers row ≡ room_for (lent e row) (length numbers)
room-is none numbers row = refl
room-is (some e) numbers row = refl

module _ {A B C : Type 0} (t : Tables A B C) (s : List ℕ) (mesh : ℕ) (vs : List A) (cs : List B) (ps : List C) where
  abbrev refuse : Refusal → Effect (Result Sizes Refusal) (Rows A B C)
  refuse r = leaving (Err r) (rows vs cs ps)

  abbrev all : Mesh → Effect (Result Sizes Refusal) (Rows A B C)
  all m = leaving (Ok (sizes_of m)) (rows_with t (rows vs cs ps) m)

  abbrev pub pick : Mesh → Choice
  pick = fitting (lent t.vertices vs) (lent t.corners cs) (lent t.mapping ps)

  picks : (m : Mesh) → tables_of t (rows vs cs ps) m ≡ with_choice refuse all (pick m)
  unfolding with_choice
  picks m =
      rw (room-is t.vertices m.vertices vs, room-is t.corners m.corners cs, room-is t.mapping m.mapping ps)
      (go (room_for (lent t.vertices vs) (length m.vertices)) (room_for (lent t.corners cs) (length m.corners)) (room_for (lent t.mapping ps) (length m.mapping)))
    where
      go : (x y z : Bool) → cond x (cond y (cond z (all m) (refuse (NoRoom (length m.mapping)))) (refuse (NoRoom (length m.corners)))) (refuse (NoRoom (length m.vertices))) ≡
          with_choice refuse all (cond x (cond y (cond z (yes m) (no (NoRoom (length m.mapping)))) (no (NoRoom (length m.corners)))) (no (NoRoom (length m.vertices))))
      go true true true = refl
      go true true false = refl
      go true false z = refl
      go false y z = refl

  pub tables-refused : {r : Refusal} → choose pick mesh (verdict s) ≡ no r → tables_call t s mesh (rows vs cs ps) ≡ leaving (Err r) (rows vs cs ps)
  unfolding tables_call
  tables-refused e = call-refused refuse all (tables_of t (rows vs cs ps)) pick picks mesh (verdict s) e

  module _ {m : Mesh} {place : Place} (e : choose pick mesh (verdict s) ≡ yes m) (p : PlaceIs s m place) where
    pub tables-filled :
        (vs' : List A) → vs' ≡ tabled t.vertices (numbers 4 (3 * place.vertices.count) (drop place.vertices.at s)) vs →
        (cs' : List B) → cs' ≡ tabled t.corners (corners place.faces.count (drop place.faces.at s)) cs →
        (ps' : List C) → ps' ≡ tabled t.mapping (filled_up (2 * place.mapping.pairs) (numbers 4 (2 * place.mapping.count) (drop place.mapping.at s))) ps →
        tables_call t s mesh (rows vs cs ps) ≡ leaving (Ok (sizes_at place)) (rows vs' cs' ps')
    unfolding tables_call
    tables-filled vs' f cs' g ps' h =
        call-goes-on refuse all (tables_of t (rows vs cs ps)) pick picks mesh (verdict s) e ∙
        rw (p.vertices_are, p.corners_are, p.mapping_is, ← p.vertex-count, ← p.face-count, ← p.pair_count_lem, f, g, h)
