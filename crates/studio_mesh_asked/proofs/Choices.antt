-- A call about one mesh, by what was chosen: a refusal is answered as it is, and a mesh is gone on with.
use mathlib.Core.Path.{◌≡◌, refl, ap, ◌∙◌}
use mathlib.Core.Option.{Option, none, some}
use Prim.Native.Nat.{ℕ}
use lib.ListN.{length, get_elem?}
use Rattle.shared_words.specs.declared.Refusal.{Refusal}
use Rattle.shared_words.specs.Conditions.{Answer, refused, accepted}
use Rattle.shared_words.specs.Picked.{pick_mesh}
use Rattle.studio_rules.specs.Gives.{Mesh, meshes}
use Rattle.studio_rules.specs.Calls.{of_mesh}
use Rattle.studio_mesh_asked.specs.Choices.{Choice, no, yes, choose}
use Rattle.studio_rules.specs.Layout.{Run}

unfoldable pub with_choice : {A : Type 0} → (Refusal → A) → (Mesh → A) → Choice → A
with_choice refuse use-it (no r) = refuse r
with_choice refuse use-it (yes m) = use-it m

-- a call that first picks, and then refuses or goes on
module _ {A : Type 0} (refuse : Refusal → A) (use-it whole : Mesh → A) (pick : Mesh → Choice) (picks : (m : Mesh) → whole m ≡ with_choice refuse use-it (pick m)) (mesh : ℕ) where
  by_choice : (a : Answer Run) → of_mesh refuse whole mesh a ≡ with_choice refuse use-it (choose pick mesh a)
  unfolding with_choice
  by_choice (refused r) = refl
  by_choice (accepted kids) = go (get_elem? (meshes kids) mesh)
    where
      go : (x : Option Mesh) → pick_mesh refuse whole (length (meshes kids)) x ≡ with_choice refuse use-it (pick_mesh no pick (length (meshes kids)) x)
      go none = refl
      go (some m) = picks m

  module _ (a : Answer Run) where
    pub call-refused : {r : Refusal} → choose pick mesh a ≡ no r → of_mesh refuse whole mesh a ≡ refuse r
    unfolding with_choice
    call-refused e = by_choice a ∙ ap (with_choice refuse use-it) e

    pub call-goes-on : {m : Mesh} → choose pick mesh a ≡ yes m → of_mesh refuse whole mesh a ≡ use-it m
    unfolding with_choice
    call-goes-on e = by_choice a ∙ ap (with_choice refuse use-it) e

-- a call that takes any mesh
module _ {A : Type 0} (refuse : Refusal → A) (use-it : Mesh → A) (mesh : ℕ) (a : Answer Run) where
  pub any-refused : {r : Refusal} → choose yes mesh a ≡ no r → of_mesh refuse use-it mesh a ≡ refuse r
  unfolding with_choice
  any-refused e = call-refused refuse use-it use-it yes (λ m. refl) mesh a e

  pub any-goes-on : {m : Mesh} → choose yes mesh a ≡ yes m → of_mesh refuse use-it mesh a ≡ use-it m
  unfolding with_choice
  any-goes-on e = call-goes-on refuse use-it use-it yes (λ m. refl) mesh a e
