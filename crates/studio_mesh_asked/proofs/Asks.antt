-- What is asked of a file: the refusal of the check, or of the search, or the mesh.
use Rattle.std.specs.Prelude.{Result, Ok, Err}
use mathlib.Core.Path.{◌≡◌, refl, sym, subst}
use mathlib.Core.List.{List}
use mathlib.Core.Option.{Option}
use Prim.Native.Nat.{ℕ}
use native.Mathlib.Omega.{arith}
use lib.ListN.{length, get_elem?}
use Rattle.shared_words.specs.declared.Refusal.{Refusal}
use Rattle.shared_words.specs.Picked.{pick_mesh}
use Rattle.studio_rules.specs.declared.Counts.{Counts}
use Rattle.shared_words.specs.Conditions.{Answer, refused, accepted}
use Rattle.studio_rules.specs.Walk.{verdict}
use Rattle.studio_rules.specs.Gives.{Mesh, meshes}
use Rattle.studio_rules.specs.Calls.{check_of, check_call}
use Rattle.studio_check.proofs.Accepted.{Accepted}
use Rattle.studio_mesh_find.specs.declared.Place.{Place}
use Rattle.studio_mesh_find.specs.Places.{PlaceIs, FoundIs}
use Rattle.studio_mesh_asked.specs.Choices.{Choice, no, yes, choose, ChoiceIs, AskedIs}
use Rattle.studio_rules.specs.Layout.{Run}

-- ---- from a choice, and back to it

module _ {s : List ℕ} {pick : Mesh → Choice} {mesh : ℕ} where
  pub is-no : {x : Refusal} → choose pick mesh (verdict s) ≡ no x → AskedIs s pick mesh (Err x)
  is-no {x} e = record { is = subst (λ (y : Choice). ChoiceIs s y (Err x)) (sym e) refl }

  pub is-yes : {m : Mesh} {place : Place} → choose pick mesh (verdict s) ≡ yes m → PlaceIs s m place → AskedIs s pick mesh (Ok place)
  is-yes {m} {place} e p = record { is = subst (λ (y : Choice). ChoiceIs s y (Ok place)) (sym e) (place, refl, p) }

module _ {s : List ℕ} {pick : Mesh → Choice} {mesh : ℕ} {r : Result Place Refusal} (a : AskedIs s pick mesh r) where
  pub asked-no : {x : Refusal} → r ≡ Err x → choose pick mesh (verdict s) ≡ no x
  asked-no {x} e = go (choose pick mesh (verdict s)) a.is
    where
      go : (y : Choice) → ChoiceIs s y r → y ≡ no x
      go (no y) q = cc
      go (yes m) (place, q, p) = absurd (let z : ◌≡◌ {A = ℕ} 0 1 = cc in omega arith)

  pub record Chosen (place : Place) : Type 0 where
    pub mesh-is : Mesh
    pub is : choose pick mesh (verdict s) ≡ yes mesh-is
    pub placed : PlaceIs s mesh-is place

  pub asked-yes : {place : Place} → r ≡ Ok place → Chosen place
  asked-yes {place} e = go (choose pick mesh (verdict s)) refl a.is
    where
      go : (y : Choice) → choose pick mesh (verdict s) ≡ y → ChoiceIs s y r → Chosen place
      go (no y) v q = absurd (let z : ◌≡◌ {A = ℕ} 0 1 = cc in omega arith)
      go (yes m) v (other, q, p) = let f : other ≡ place = cc in record { mesh-is = m; is = v; placed = subst (PlaceIs s m) f p }

-- ---- by the check

pub file-refused : (s : List ℕ) (mesh : ℕ) {r : Refusal} → check_call s ≡ Err r → AskedIs s yes mesh (Err r)
unfolding check_call
file-refused s mesh {r} e = is-no (go (verdict s) e)
  where
    go : (a : Answer Run) → check_of a ≡ Err r → choose yes mesh a ≡ no r
    go (refused x) e = cc
    go (accepted kids) e = absurd (let z : ◌≡◌ {A = ℕ} 0 1 = cc in omega arith)

-- ---- by the search

module _ (s : List ℕ) (mesh : ℕ) {counts : Counts} (l : Accepted s counts) where
  chosen : {x : Option Mesh} → get_elem? (meshes l.kids) mesh ≡ x → choose yes mesh (verdict s) ≡ pick_mesh no yes (length (meshes l.kids)) x
  chosen e = rw (l.verdict-is, e)

  pub mesh-asked : (f : Result Place Refusal) → FoundIs s (meshes l.kids) mesh f → AskedIs s yes mesh f
  mesh-asked (Ok place) (m, g, p) = is-yes (chosen g) p
  mesh-asked (Err x) (g, q) = rw q (is-no (chosen g))
