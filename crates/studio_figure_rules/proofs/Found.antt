-- One mesh of a figure, by the reader's calls: mesh k is object k.
use Rattle.std.specs.Prelude.{Ok, Err}
use mathlib.Core.Path.{◌≡◌, refl, sym, ap, ◌∙◌}
use Prim.Native.Nat.{ℕ, zero, suc, ◌+◌, ◌/◌, ◌≤◌}
use native.Mathlib.Omega.{arith}
use mathlib.Core.List.{List, [], ◌∷◌, map, head-eq_of_cons-eq, tail-eq_of_cons-eq}
use mathlib.Core.Option.{Option, none, some}
use lib.Ieee.{Float}
use lib.ListN.{length, get_elem?}
use borrow.Author.Tests.{le-leb}
use Rattle.shared_words.specs.declared.Refusal.TheVariants.{NoSuchMesh}
use Rattle.studio_rules.specs.Layout.{Run}
use Rattle.shared_words.specs.Conditions.{accepted}
use Rattle.studio_rules.specs.Walk.{verdict}
use Rattle.studio_rules.specs.Encodings.{part_row}
use Rattle.shared_words.specs.Effects.{leaving}
use Rattle.studio_rules.specs.Calls.{Rows, in_numbers, tables_of, tables_call, name_of, name_call, parts_call}
use Rattle.studio_rules.specs.Gives.{Mesh, meshes, parts}
use Rattle.studio_figure_rules.specs.Given.{Object}
use Rattle.studio_figure_rules.specs.Judged.{object_size}
use Rattle.studio_figure_rules.specs.ReadsBack.{mesh_given, meshes_given, name_in}

pub mesh-found : (at : ℕ) (os : List Object) (k : ℕ) (o : Object) → get_elem? os k ≡ some o → (n : ℕ) × (get_elem? (meshes_given at os) k ≡ some (mesh_given n o))
mesh-found at [] k o e = let z : ◌≡◌ {A = ℕ} 0 1 = cc in absurd (omega arith)
mesh-found at (x ∷ os) zero o e = (at + 6, ap (λ (t : Option Object). with-mesh t) e)
  where
    with-mesh : Option Object → Option Mesh
    with-mesh none = none
    with-mesh (some y) = some (mesh_given (at + 6) y)
mesh-found at (x ∷ os) (suc k) o e = mesh-found (at + object_size x) os k o e

pub mesh-none : (at : ℕ) (os : List Object) (k : ℕ) → length os ≤ k → get_elem? (meshes_given at os) k ≡ none
mesh-none at [] k h = refl
mesh-none at (x ∷ os) zero h = absurd (omega arith)
mesh-none at (x ∷ os) (suc k) h = mesh-none (at + object_size x) os k (omega arith)

pub meshes-count : (at : ℕ) (os : List Object) → length (meshes_given at os) ≡ length os
meshes-count at [] = refl
meshes-count at (x ∷ os) = ap suc (meshes-count (at + object_size x) os)

pub name-found : (s : List ℕ) (ms : List Mesh) (os : List Object) (k : ℕ) (m : Mesh) (o : Object) → map (name_in s) ms ≡ map (λ (x : Object). x.name) os →
    get_elem? ms k ≡ some m → get_elem? os k ≡ some o → name_in s m ≡ o.name
name-found s [] os k m o e a b = let z : ◌≡◌ {A = ℕ} 0 1 = cc in absurd (omega arith)
name-found s (x ∷ ms) [] k m o e a b = let z : ◌≡◌ {A = ℕ} 0 1 = cc in absurd (omega arith)
name-found s (x ∷ ms) (y ∷ os) zero m o e a b =
    let p : x ≡ m = cc in
    let q : y ≡ o = cc in
    sym (ap (name_in s) p) ∙ head-eq_of_cons-eq e ∙ ap (λ (t : Object). t.name) q
name-found s (x ∷ ms) (y ∷ os) (suc k) m o e a b = name-found s ms os k m o (tail-eq_of_cons-eq e) a b

-- of a file that is accepted, by its meshes
module _ (s : List ℕ) (kids : Run) (k : ℕ) (e : verdict s ≡ accepted kids) where
  pub tables-found : (rows : Rows Float ℕ Float) (m : Mesh) → get_elem? (meshes kids) k ≡ some m → tables_call in_numbers s k rows ≡ tables_of in_numbers rows m
  unfolding tables_call
  tables-found rows m h = rw (e, h)

  pub name-called : (m : Mesh) → get_elem? (meshes kids) k ≡ some m → name_call s k ≡ name_of m
  unfolding name_call
  name-called m h = rw (e, h)

  pub name-refused : get_elem? (meshes kids) k ≡ none → name_call s k ≡ Err (NoSuchMesh (length (meshes kids)))
  unfolding name_call
  name-refused h = rw (e, h)

pub parts-found : (s : List ℕ) (kids : Run) → verdict s ≡ accepted kids → parts kids ≡ [] → (row : List ℕ) → parts_call part_row s row ≡ leaving (Ok 0) row
unfolding parts_call
parts-found s kids e n row = rw (e, n, le-leb 0 (length row / 2) (omega arith))
